-- Every call that hands a state back, refused or not: what is handed back is sound where what was given is, and has the solutions that keep to the table that
-- the call adds.
use mathlib.Core.Bool.{Bool, true, false}
use mathlib.Core.List.{List, []}
use mathlib.Core.Path.{◌≡◌, refl, sym, ap, ◌∙◌}
use Prim.Native.Nat.{ℕ}
use native.Mathlib.Omega.{arith}
use lib.Dec.{eqb}
use borrow.Author.Tests.{eq-eqb, ne_eqb, eqb-true, eqb-false}
use Rattle.bounded.specs.Bool.{and, implies, if}
use Rattle.bounded.proofs.Bool.{by_cases, and-true, implies-i, implies_true, implies-false, if-true, if-false}
use Rattle.bounded.proofs.Table.{is-table}
use Rattle.network.specs.Network.{Network, solves}
use Rattle.network.specs.Promise.{Keeps}
use Rattle.network.specs.Calls.{Call, refuses, made, answer, tables_of, adds, keeps_to}
use Rattle.network.specs.Sheet.{Table}
use Rattle.network.proofs.Calls.{answer-taken, answer-refused, adds-taken, answer_keeps, keeps-to-none}
use Rattle.pairs.specs.Pairs.{variables}
use Rattle.head.specs.Held.{HeadShaped, held, head_of}
use Rattle.head.proofs.Held.{Packed, held-sound, kept-packed}
use Rattle.state.specs.declared.state.State.{State}
use Rattle.state.specs.View.{head_in, view, pack, sound_state}
use Rattle.state.specs.Answers.{Told}
use Rattle.state.specs.Calls.{refused, call_refusal, called}
use Rattle.state.proofs.View.{Shaped, state-sound, pack-view, packed-view, packed-state, packed-shaped}

-- Case by case.
module _ (s : State) (c : Call) where
  pub call-unsound : sound_state s ≡ false → call_refusal s c ≡ 9
  unfolding call_refusal
  call-unsound t = if-false _ _ _ t

  pub call-sound : sound_state s ≡ true → call_refusal s c ≡ refuses (view s) c
  unfolding call_refusal
  call-sound t = if-true _ _ _ t

  pub call-taken : call_refusal s c ≡ 0 → called s c ≡ record { number = 0; state = pack (made (view s) c).network; steps = (made (view s) c).steps }
  unfolding called
  call-taken e = if-true _ _ _ (eq-eqb _ 0 e)

  -- "a refused call hands back what it was given", and counts no step.
  pub call-refused : (call_refusal s c ≡ 0 → ⊥) → called s c ≡ refused (call_refusal s c) s
  unfolding called
  call-refused d = if-false _ _ _ (ne_eqb _ 0 d)

  -- The number answered is the one that refuses.
  pub call-number : (called s c).number ≡ call_refusal s c
  unfolding refused
  call-number =
      by_cases (eqb (call_refusal s c) 0)
      (λ t. let e = eqb-true _ 0 t in ap (λ (a : Told). a.number) (call-taken e) ∙ sym e)
      (λ t. ap (λ (a : Told). a.number) (call-refused (eqb-false _ 0 t)))

  pub call_back : ((called s c).number ≡ 0 → ⊥) → (called s c).state ≡ s
  unfolding refused
  call_back n = ap (λ (a : Told). a.state) (call-refused (λ e. n (call-number ∙ e)))

  -- A call on a state that is not sound is refused with 9.
  pub call-9 : sound_state s ≡ false → called s c ≡ refused 9 s
  call-9 t = call-refused (λ e. let z : ⊥ = omega (arith, call-unsound t) in z) ∙ ap (λ (k : ℕ). refused k s) (call-unsound t)

  -- Only a call on a sound state is not refused.
  pub taken-sound : call_refusal s c ≡ 0 → sound_state s ≡ true
  taken-sound e = by_cases (sound_state s) (λ t. t) (λ t. absurd (let z : ⊥ = omega (arith, call-unsound t) in z))

-- On a sound state a call hands back the state of the network that it answers.
module _ (s : State) (h : Shaped s) (t : sound_state s ≡ true) (c : Call) where
  pub call-answers : (called s c).state ≡ pack (answer (view s) c)
  unfolding refused
  call-answers =
      let same = call-sound s c t in
      by_cases (eqb (refuses (view s) c) 0)
      (λ r. ap (λ (a : Told). a.state) (call-taken s c (same ∙ eqb-true _ 0 r)) ∙ ap pack (sym (answer-taken (view s) c r)))
      (λ r. ap (λ (a : Told). a.state) (call-refused s c (λ e. eqb-false _ 0 r (sym same ∙ e)))
      ∙ sym (pack-view s h) ∙ ap pack (sym (answer-refused (view s) c r)))

  pub answer-packed : Packed (answer (view s) c)
  answer-packed = kept-packed _ h.head_shaped t (answer (view s) c) (answer_keeps (view s) (state-sound s h t) c)

  -- One that is not refused hands back the state of the network that it makes, and counts its steps.
  module _ (e : refuses (view s) c ≡ 0) where
    pub made-view : view (called s c).state ≡ (made (view s) c).network
    made-view =
        ap view call-answers ∙ packed-view answer-packed ∙ answer-taken (view s) c (eq-eqb _ 0 e)

    pub made-steps : (called s c).steps ≡ (made (view s) c).steps
    made-steps = ap (λ (a : Told). a.steps) (call-taken s c (call-sound s c t ∙ e))

-- What every call keeps of a state, refused or not.
pub record StateKept (s t : State) (p : (ℕ → ℕ) → Bool) : Type 0 where
  pub kept_shaped : Shaped t
  pub kept_sound : sound_state s ≡ true → sound_state t ≡ true
  pub kept_n : t.n ≡ s.n
  pub kept_size : (i : ℕ) → (view t).size i ≡ (view s).size i
  pub kept_solutions : (g : ℕ → ℕ) → solves (view t) g ≡ and (solves (view s) g) (p g)

pub kept_self : (s : State) → Shaped s → (p : (ℕ → ℕ) → Bool) → ((g : ℕ → ℕ) → p g ≡ true) → StateKept s s p
kept_self s h p all =
    record {
      kept_shaped = h;
      kept_sound = λ t. t;
      kept_n = refl;
      kept_size = λ i. refl;
      kept_solutions = λ g. sym (and-true _) ∙ ap (and (solves (view s) g)) (sym (all g));
    }

pub kept-packed-state : (s : State) (M : Network) (p : (ℕ → ℕ) → Bool) → Keeps (view s) M p → Packed M → StateKept s (pack M) p
unfolding held head_of pack
kept-packed-state s M p K P =
    record {
      kept_shaped = packed-shaped P;
      kept_sound = λ t. packed-state P;
      kept_n = K.same_n;
      kept_size = λ i. ap (λ (N : Network). N.size i) (packed-view P) ∙ K.same_size i;
      kept_solutions = λ g. ap (λ (N : Network). solves N g) (packed-view P) ∙ K.same_solutions g;
    }

pub kept-cong : {s t : State} {p q : (ℕ → ℕ) → Bool} → ((g : ℕ → ℕ) → p g ≡ q g) → StateKept s t p → StateKept s t q
kept-cong {s} e k =
    record {
      kept_shaped = k.kept_shaped;
      kept_sound = k.kept_sound;
      kept_n = k.kept_n;
      kept_size = k.kept_size;
      kept_solutions = λ g. k.kept_solutions g ∙ ap (and (solves (view s) g)) (e g);
    }

-- A call on a sound state keeps the solutions that keep to what it adds,
answer-kept : (s : State) → Shaped s → (c : Call) → sound_state s ≡ true → StateKept s (called s c).state (keeps_to (adds (view s) c))
answer-kept s h c t =
    rw (call-answers s h t c)
    (kept-packed-state s (answer (view s) c) _ (answer_keeps (view s) (state-sound s h t) c) (answer-packed s h t c))

-- and so does every call, refused or not: a call that is refused adds nothing.
pub call-keeps : (s : State) → Shaped s → (c : Call)
    → StateKept s (called s c).state (λ (g : ℕ → ℕ). implies (eqb (call_refusal s c) 0) (keeps_to (tables_of c) g))
unfolding refused
call-keeps s h c =
    by_cases (eqb (call_refusal s c) 0)
    (λ r. let e = eqb-true _ 0 r in
    let t = taken-sound s c e in
    let adds-all = adds-taken (view s) c (eq-eqb _ 0 (sym (call-sound s c t) ∙ e)) in
    kept-cong (λ g. ap (λ (ts : List Table). keeps_to ts g) adds-all ∙ sym (implies_true _ _ r)) (answer-kept s h c t))
    (λ r. rw (call-refused s c (eqb-false _ 0 r)) (kept_self s h _ (λ g. implies-false _ _ r)))

-- One that is to add no table keeps every solution.
pub call-keeps-all : (s : State) → Shaped s → (c : Call) → tables_of c ≡ [] → StateKept s (called s c).state (λ (g : ℕ → ℕ). true)
call-keeps-all s h c e =
    kept-cong (λ g. implies-i _ _ (λ _. ap (λ (ts : List Table). keeps_to ts g) e ∙ keeps-to-none g)) (call-keeps s h c)

-- No call moves n or a size. What the types say of the head is enough for it.
module _ (s : State) (h : HeadShaped (head_in s)) (c : Call) where
  pub call_same : ((called s c).state.n ≡ s.n) × ((called s c).state.sizes ≡ s.sizes)
  unfolding refused pack head_of held
  call_same =
      by_cases (eqb (call_refusal s c) 0)
      (λ t. let e = eqb-true _ 0 t in
      let sound = taken-sound s c e in
      let r : eqb (refuses (view s) c) 0 ≡ true = eq-eqb _ 0 (sym (call-sound s c sound) ∙ e) in
      let K = answer_keeps (view s) (held-sound _ _ h sound) c in
      let q = answer-taken (view s) c r in
      rw (call-taken s c e) (
        ap (λ (N : Network). N.n) (sym q) ∙ K.same_n,
        sym (is-table variables _ s.sizes 0 h.sizes_array.array_length (λ i _. sym (ap (λ (N : Network). N.size i) (sym q) ∙ K.same_size i))),
      ))
      (λ t. rw (call-refused s c (eqb-false _ 0 t)) (refl, refl))

  -- The head that a call leaves is again what its types say.
  pub call-head : HeadShaped (head_in (called s c).state)
  unfolding refused pack
  call-head =
      by_cases (eqb (call_refusal s c) 0)
      (λ t. let e = eqb-true _ 0 t in
      let sound = taken-sound s c e in
      let r : eqb (refuses (view s) c) 0 ≡ true = eq-eqb _ 0 (sym (call-sound s c sound) ∙ e) in
      let K = answer_keeps (view s) (held-sound _ _ h sound) c in
      rw (call-taken s c e, sym (answer-taken (view s) c r)) (kept-packed _ h sound _ K).packed_head)
      (λ t. rw (call-refused s c (eqb-false _ 0 t)) h)
