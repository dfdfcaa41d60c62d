-- The whole text in its parts, and that it fits.
use mathlib.Core.List.{List, ◌++◌}
use mathlib.Core.Path.{◌≡◌, sym, ◌∙◌, ap}
use Prim.Native.Nat.{ℕ, zero, suc, ◌+◌, ◌-◌, ◌*◌, ◌≤◌, ◌<◌}
use native.Mathlib.Omega.{arith}
use lib.Dec.{eqb}
use lib.ListN.{length, get_or, take, drop, replicate, length-append}
use lib.Seq.{take_at}
use borrow.Author.Tests.{eq-eqb, ne_eqb, eqb-true, eqb-false}
use Rattle.bounded.proofs.Bool.{by_cases, if-true, if-false}
use Rattle.buffers.specs.Digits.{decimal}
use Rattle.buffers.specs.Wrote.{Wrote}
use Rattle.buffers.proofs.Digits.{length-decimal-le, length-hex}
use Rattle.network.specs.Completion.{NONE, BUILT, OPEN}
use Rattle.answers.specs.Answers.{VerdictTold, rules, no_verdict, verdict_solution}
use Rattle.state.specs.Cut.{CutTold}
use Rattle.text_lines.specs.Text.{ascii, refused_text, pair_line, live_line, option_line, option_lines}
use Rattle.text_lines.proofs.Laws.{option-live, option-follows}
use Rattle.text_verdict.specs.Text.{value_text, value_texts, built_text, ruled_text, verdict_text}
use Rattle.text_report.specs.Text.{cut_text, text_as}
use Rattle.text_report.specs.Printed.{Printed, Printable}

-- ---- the text in either case

pub text-accepted : (c : CutTold) → c.number ≡ 0 → text_as c ≡ cut_text c.state.n c.state.leaders c.state.domains c.steps c.verdict
unfolding text_as
text-accepted c h = if-true _ _ _ (eq-eqb c.number 0 h)

pub text-refused : (c : CutTold) → (c.number ≡ 0 → ⊥) → text_as c ≡ refused_text c.number c.place
unfolding text_as
text-refused c h = if-false _ _ _ (ne_eqb c.number 0 h)

-- ---- lengths

length-pair : (first : List ℕ) (one : ℕ) (second : List ℕ) (two : ℕ)
    → length (pair_line first one second two) ≡ length first + (length (decimal one) + (length second + (length (decimal two) + 1)))
unfolding pair_line ascii
length-pair first one second two = simp length-append

length-live : (number list : ℕ) → length (live_line number list) ≡ length (decimal number) + 20
unfolding live_line ascii
length-live number list = simp (length-append, length-hex) (omega arith)

option-le : (i leader list : ℕ) → i < 16 → leader < 256 → length (option_line i leader list) ≤ 22
unfolding ascii
option-le i leader list h l =
    by_cases (eqb leader 0)
    (λ t. rw (option-live i leader list (eqb-true leader 0 t))
    (omega (arith, length-live (i + 1) list, length-decimal-le 1 (i + 1) (omega arith))))
    (λ t. rw (option-follows i leader list (eqb-false leader 0 t))
    (omega (
      arith,
      length-pair (ascii "FOLLOWS ") (i + 1) (ascii " OF ") leader,
      length-decimal-le 1 (i + 1) (omega arith),
      length-decimal-le 2 leader (omega arith),
    )))

options_le : (leaders lists : List ℕ) → ((k : ℕ) → get_or leaders k 0 < 256) → (n : ℕ) → n ≤ 16 → length (option_lines leaders lists n) ≤ 22 * n
unfolding option_lines
options_le leaders lists b zero h = omega arith
options_le leaders lists b (suc n) h =
    simp length-append
    (omega (arith, options_le leaders lists b n (omega arith), option-le n (get_or leaders n 0) (get_or lists n 0) (omega arith) (b n)))

values-le : (build : List ℕ) → ((k : ℕ) → get_or build k 0 < 256) → (n : ℕ) → length (value_texts build n) ≤ 4 * n
unfolding value_texts value_text ascii
values-le build b zero = omega arith
values-le build b (suc n) = simp length-append (omega (arith, values-le build b n, length-decimal-le 2 (get_or build n 0) (omega (arith, b n))))

verdict-le : (v : VerdictTold) → ((k : ℕ) → get_or (verdict_solution v) k 0 < 256) → (n : ℕ) → n ≤ 16 → length (verdict_text v n) ≤ 84
unfolding verdict_text ruled_text built_text verdict_solution ascii
verdict-le (rules NONE build) b n h = omega arith
verdict-le (rules BUILT build) b n h = simp length-append (omega (arith, values-le build b n))
verdict-le (rules OPEN build) b n h = omega arith
verdict-le (no_verdict number build) b n h = omega arith

cut-le : (c : CutTold) → Printable c → length (cut_text c.state.n c.state.leaders c.state.domains c.steps c.verdict) < 512
unfolding cut_text ascii
cut-le c p =
    simp length-append
    (omega (
      arith,
      options_le c.state.leaders c.state.domains p.leaders_lt c.state.n p.options_le,
      verdict-le c.verdict p.values_lt c.state.n p.options_le,
      length-decimal-le 1 c.state.n (omega arith),
      length-decimal-le 1 c.steps (omega arith),
    ))

pub refused-le : (number place : ℕ) → number < 100 → place ≤ 15621 → length (refused_text number place) < 512
unfolding refused_text pair_line ascii
refused-le number place h k = simp length-append (omega (arith, length-decimal-le 1 number h, length-decimal-le 4 place (omega arith)))

-- The text fits an array of 512 bytes, and leaves room for a zero.
pub text-fits : (c : CutTold) → Printable c → length (text_as c) < 512
text-fits c p =
    by_cases (eqb c.number 0)
    (λ t. rw (text-accepted c (eqb-true c.number 0 t)) (cut-le c p))
    (λ t. rw (text-refused c (eqb-false c.number 0 t)) (refused-le c.number c.place p.number_lt p.place_le))

-- ---- a text written at the start of zeros

drop-replicate : (m n a : ℕ) → drop m (replicate n a) ≡ replicate (n - m) a
drop-replicate zero n a = ap (λ (k : ℕ). replicate k a) (let e : n ≡ n - 0 = omega arith in e)
drop-replicate (suc m) zero a = ap (λ (k : ℕ). replicate k a) (let e : 0 ≡ 0 - suc m = omega arith in e)
drop-replicate (suc m) (suc n) a = drop-replicate m n a ∙ ap (λ (k : ℕ). replicate k a) (let e : n - m ≡ suc n - suc m = omega arith in e)

pub printed : (size : ℕ) {text bytes : List ℕ} {n : ℕ} → length text < size → Wrote (replicate size 0) bytes text 0 n → Printed size text bytes n
printed size {text} {bytes} {n} h w =
    let e : n ≡ length text = omega arith in
    record { ends = e; zero_past = omega (arith, h); holds = w.holds ∙ rw (drop-replicate n size 0, e) }

-- A printed text lies within its array, and is what stands at its start.
module _ {size : ℕ} {text bytes : List ℕ} {n : ℕ} (p : Printed size text bytes n) where
  pub printed-within : n ≤ length bytes
  printed-within = omega (arith, p.ends, ap length p.holds ∙ length-append text (replicate (size - length text) 0))

  pub printed-text : take n bytes ≡ text
  printed-text = ap (take n) p.holds ∙ take_at text (replicate (size - length text) 0) n (sym p.ends)
