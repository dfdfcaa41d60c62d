-- The cases of the text, and that the state stays sound.
use mathlib.Core.Bool.{Bool, true, false}
use mathlib.Core.List.{List, ◌++◌}
use mathlib.Core.Path.{◌≡◌, refl, sym, ◌∙◌, ap}
use Prim.Native.Nat.{ℕ, ◌^◌, ◌<◌}
use native.Mathlib.Omega.{arith}
use lib.ListN.{length, replicate, length-append, length-replicate}
use borrow.Author.Tests.{eq-eqb, ne_eqb}
use Rattle.std.specs.Prelude.{Option, None, Some, Ok, Err}
use Rattle.bounded.proofs.Bool.{if-true, if-false}
use Rattle.cause.specs.declared.Cause.{Cause}
use Rattle.cause.specs.declared.Refusal.{Refusal}
use Rattle.cause.specs.Number.{number_of}
use Rattle.cause.proofs.Laws.{number-positive}
use Rattle.network.specs.Calls.{tables_of, full_reduction, trimmed_reduction, led_reduction}
use Rattle.network.specs.Reduction.{reduce}
use Rattle.network.specs.Trimming.{alternate}
use Rattle.head.specs.declared.Head.{Head}
use Rattle.head.specs.Held.{held}
use Rattle.step_reduce.specs.declared.Reduction.{Reduction}
use Rattle.step_reduce.specs.Reduced.{RanTo}
use Rattle.format.specs.Parse.{Octets}
use Rattle.state.specs.declared.state.State.{State}
use Rattle.state.specs.View.{Shaped, state_of, sound_state}
use Rattle.state.specs.Answers.{ReadTold, Told}
use Rattle.state.specs.Read.{read_sheet}
use Rattle.state.specs.Steps.{reduced, trimmed, led}
use Rattle.state.specs.Worked.{worked_told}
use Rattle.state.proofs.Calls.{StateKept, call-keeps-all}
use Rattle.state.proofs.WorkedOut.{reduction-told, alternation-told}
use Rattle.state_read.specs.Parts.{read_parts_told}
use Rattle.state_read.proofs.RoundTrip.{read-sound}
use Rattle.meter.specs.Fitted.{MeterTold, fit_refusal, fitted}
use Rattle.meter.proofs.Fitted.{fitted-number, fitted-done}
use Rattle.meter.proofs.Promise.{then-reduced}
use Rattle.meter_parts.specs.declared.Fit.{Fit}
use Rattle.meter_parts.specs.Parts.{fit_told}
use Rattle.text_lines.specs.Text.{ascii}
use Rattle.text_put.specs.Put.{Put}
use Rattle.text_put.proofs.Laws.{put_then, put-wrote}
use Rattle.text_phrase.specs.Phrase.{refusal_line, refusal_at_line}
use Rattle.text_phrase.proofs.Laws.{refusal-le, refusal-at-le, cause-small}
use Rattle.text_report.specs.Printed.{Printed}
use Rattle.text_report.proofs.Fits.{printed}
use Rattle.plan_state.specs.Plan.{state_text}
use Rattle.plan_text.specs.declared.Ask.{Ask}
use Rattle.plan_text.specs.Text.{refused_text, unless_refused, last_of, fitted_text, lead_text, led_text, read_text, plan_text}

-- ---- refusals

length-end : length (ascii "END 1 REFUSED\n") ≡ 14
unfolding ascii
length-end = refl

pub refused-put : (number : ℕ) {a b c : List ℕ} {p r : ℕ} → Put a b (refusal_line number) 0 p → Put b c (ascii "END 1 REFUSED\n") p r
    → Put a c (refused_text number) 0 r
unfolding refused_text
refused-put number h k = put_then h k

pub refused-le : (c : Cause) → length (refused_text (number_of c)) < 65536
unfolding refused_text
refused-le c = simp length-append (omega (arith, length-end, refusal-le (number_of c) (cause-small c)))

unless-none : (number : ℕ) (text : List ℕ) → number ≡ 0 → unless_refused number text ≡ text
unfolding unless_refused
unless-none number text h = if-true _ _ _ (eq-eqb number 0 h)

unless-some : (number : ℕ) (text : List ℕ) → (number ≡ 0 → ⊥) → unless_refused number text ≡ refused_text number
unfolding unless_refused
unless-some number text h = if-false _ _ _ (ne_eqb number 0 h)

positive : (c : Cause) → number_of c ≡ 0 → ⊥
positive c z = omega (arith, number-positive c)

-- ---- a sound state, and what a call makes of it

pub record Ready (s : State) : Type 0 where
  pub is_shaped : Shaped s
  pub is_sound : sound_state s ≡ true

kept-ready : {s t : State} {p : (ℕ → ℕ) → Bool} → Ready s → StateKept s t p → Ready t
kept-ready r k = record { is_shaped = k.kept_shaped; is_sound = k.kept_sound r.is_sound }

reduced-ready : (s : State) → Ready s → Ready (reduced s).state
unfolding tables_of
reduced-ready s r = kept-ready r (call-keeps-all s r.is_shaped full_reduction refl)

trimmed-ready : (s : State) → Ready s → Ready (trimmed s).state
unfolding tables_of
trimmed-ready s r = kept-ready r (call-keeps-all s r.is_shaped trimmed_reduction refl)

pub last-ready : (s : State) → Ready s → Ready (last_of s)
unfolding last_of
last-ready s r = trimmed-ready _ (reduced-ready s r)

led-ready : (s : State) (l : ℕ) → Ready s → Ready (led s l).state
unfolding tables_of
led-ready s l r = kept-ready r (call-keeps-all s r.is_shaped (led_reduction l) refl)

fitted-ready : (s : State) → Ready s → (fitted s).number ≡ 0 → Ready (fitted s).state
fitted-ready s r n =
    let e : fit_refusal s ≡ 0 = sym (fitted-number s) ∙ n in
    let on = then-reduced s r.is_shaped e in
    rw (fitted-done s e) (record { is_shaped = on.on_shaped; is_sound = on.on_sound })

-- Reducing and trimming, one after the other.
module _ (h : Head) (rows : List ℕ) (r : Ready (state_of h rows)) {a : Reduction} {mid : List ℕ} (e : RanTo (reduce (held h rows)) a mid) where
  reduced-is : state_of a.head mid ≡ (reduced (state_of h rows)).state
  reduced-is = ap (λ (t : Told). t.state) (reduction-told h rows r.is_sound e)

  pub between-ready : Ready (state_of a.head mid)
  between-ready = rw reduced-is (reduced-ready _ r)

  module _ {b : Reduction} {left : List ℕ} (f : RanTo (alternate (held a.head mid)) b left) where
    pub last-is : state_of b.head left ≡ last_of (state_of h rows)
    unfolding last_of
    last-is =
        ap (λ (t : Told). t.state) (alternation-told a.head mid between-ready.is_sound f)
        ∙ ap (λ (u : State). (trimmed u).state) reduced-is

    pub last-sound : sound_state (state_of b.head left) ≡ true
    last-sound = ap sound_state last-is ∙ (last-ready _ r).is_sound

-- ---- page nine

module _ (s : State) where
  pub fitted-not : (page9 : Bool) → page9 ≡ false → fitted_text page9 s ≡ state_text (last_of s)
  unfolding fitted_text
  fitted-not page9 h = if-false _ _ _ h

  module _ (page9 : Bool) (h : page9 ≡ true) (given : Head) (rows : List ℕ) where
    asked : fitted_text page9 s ≡ unless_refused (fitted s).number (state_text (last_of (fitted s).state))
    unfolding fitted_text
    asked = if-true _ _ _ h

    pub fitted-refused : (c : Cause) → fit_told given (Err c) rows ≡ fitted s → fitted_text page9 s ≡ refused_text (number_of c)
    unfolding fit_told
    fitted-refused c e =
        let n : (fitted s).number ≡ number_of c = sym (ap (λ (t : MeterTold). t.number) e) in
        asked ∙ ap (λ (k : ℕ). unless_refused k (state_text (last_of (fitted s).state))) n ∙ unless-some _ _ (positive c)

    module _ (a : Fit) (e : fit_told given (Ok a) rows ≡ fitted s) where
      none : (fitted s).number ≡ 0
      unfolding fit_told
      none = sym (ap (λ (t : MeterTold). t.number) e)

      state_is : state_of a.head rows ≡ (fitted s).state
      unfolding fit_told
      state_is = ap (λ (t : MeterTold). t.state) e

      pub fitted-is : fitted_text page9 s ≡ state_text (last_of (state_of a.head rows))
      fitted-is = asked ∙ unless-none _ _ none ∙ ap (λ (t : State). state_text (last_of t)) (sym state_is)

      pub fit-ready : Ready s → Ready (state_of a.head rows)
      fit-ready r = rw state_is (fitted-ready s r none)

-- ---- the leader

module _ (s : State) (ask : Ask) where
  pub led-not : ask.lead ≡ None → led_text ask s ≡ fitted_text ask.page9 s
  unfolding led_text lead_text
  led-not h = ap (λ (l : Option ℕ). lead_text l ask.page9 s) h

  module _ {leader : ℕ} (h : ask.lead ≡ Some leader) (given : Head) (rows : List ℕ) where
    led-asked : led_text ask s ≡ unless_refused (led s leader).number (fitted_text ask.page9 (led s leader).state)
    unfolding led_text lead_text
    led-asked = ap (λ (l : Option ℕ). lead_text l ask.page9 s) h

    pub led-refused : (c : Cause) → worked_told given (Err c) rows ≡ led s leader → led_text ask s ≡ refused_text (number_of c)
    led-refused c e =
        let n : (led s leader).number ≡ number_of c = sym (ap (λ (t : Told). t.number) e) in
        led-asked ∙ ap (λ (k : ℕ). unless_refused k (fitted_text ask.page9 (led s leader).state)) n ∙ unless-some _ _ (positive c)

    module _ (a : Reduction) (e : worked_told given (Ok a) rows ≡ led s leader) where
      lead-state : state_of a.head rows ≡ (led s leader).state
      lead-state = ap (λ (t : Told). t.state) e

      pub led-is : led_text ask s ≡ fitted_text ask.page9 (state_of a.head rows)
      led-is = led-asked ∙ unless-none _ _ (sym (ap (λ (t : Told). t.number) e)) ∙ ap (fitted_text ask.page9) (sym lead-state)

      pub lead-ready : Ready s → Ready (state_of a.head rows)
      lead-ready r = rw lead-state (led-ready s leader r)

-- ---- reading

module _ (bytes : List ℕ) (ask : Ask) (rows : List ℕ) where
  module _ (r : Refusal) (e : read_parts_told (Err r) rows ≡ read_sheet bytes) where
    pub text-refused : plan_text ask bytes ≡ refusal_at_line (number_of r.cause) r.place ++ ascii "END 1 REFUSED\n"
    unfolding plan_text read_text read_parts_told
    text-refused = ap (read_text ask) (sym e) ∙ if-false _ _ _ (ne_eqb _ 0 (positive r.cause))

    pub text-refused-put : {x y z : List ℕ} {p q : ℕ} → Put x y (refusal_at_line (number_of r.cause) r.place) 0 p → Put y z (ascii "END 1 REFUSED\n") p q
        → Put x z (plan_text ask bytes) 0 q
    text-refused-put h k = rw text-refused (put_then h k)

    pub text-refused-le : r.place < 2 ^ 64 → length (plan_text ask bytes) < 65536
    text-refused-le l = rw text-refused (simp length-append (omega (arith, length-end, refusal-at-le (number_of r.cause) r.place (cause-small r.cause) l)))

  module _ (h : Head) (e : read_parts_told (Ok h) rows ≡ read_sheet bytes) where
    pub text-accepted : plan_text ask bytes ≡ led_text ask (state_of h rows)
    unfolding plan_text read_text read_parts_told
    text-accepted = ap (read_text ask) (sym e) ∙ if-true _ _ _ refl

    pub read-ready : Octets bytes → Ready (state_of h rows)
    unfolding read_parts_told
    read-ready octets =
        let r = read-sound bytes octets (sym (ap (λ (t : ReadTold). t.number) e)) in
        rw (ap (λ (t : ReadTold). t.state) e) (record { is_shaped = r.read_shaped; is_sound = r.is_sound })

-- ---- the whole text, at the start of zeros

pub text-printed : {text bytes : List ℕ} {n : ℕ} → length text < 65536 → Put (replicate 65536 0) bytes text 0 n → Printed 65536 text bytes n
text-printed h p = printed 65536 h (put-wrote (rw (length-replicate {A = ℕ} 65536 0) (omega (arith, h))) p)
