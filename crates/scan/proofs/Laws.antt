-- What bytes do to a line that was seen in part.
use mathlib.Core.Bool.{Bool, true, false}
use mathlib.Core.List.{List, [], ◌∷◌, ◌++◌}
use mathlib.Core.Path.{◌≡◌, refl, ◌∙◌}
use Prim.Native.Nat.{ℕ, ◌≤◌}
use borrow.Author.Tests.{leb-true, eq-eqb, ne_eqb}
use native.Mathlib.Omega.{arith}
use Rattle.bounded.specs.Bool.{or}
use Rattle.bounded.proofs.Bool.{clash, if-true, if-false, and_l}
use Rattle.scan.specs.declared.Scan.{Scan}
use Rattle.scan.specs.Bytes.{within}
use Rattle.scan.specs.Scan.{faulted, close, ended_after, ended, taken, ticked, step, scan}
use Rattle.scan.specs.Line.{told, judged, finish}

pub or-second : (a b : Bool) → a ≡ false → or a b ≡ b
unfolding or
or-second true b h = clash refl h
or-second false b h = refl

pub digit_low : (b : ℕ) → within 48 57 b ≡ true → 48 ≤ b
unfolding within
digit_low b h = leb-true 48 b (and_l _ _ h)

-- A line in two parts.
pub scan-append : (s : Scan) (a b : List ℕ) → scan s (a ++ b) ≡ scan (scan s a) b
unfolding scan
scan-append s [] b = refl
scan-append s (x ∷ a) b = scan-append (step s x) a b

-- ---- the rest of a line that does not count
-- In phase 4, which a fault and a comment bring, neither a byte
pub rest-idle : (s : Scan) (bytes : List ℕ) → s.phase ≡ 4 → scan s bytes ≡ s
unfolding scan step
rest-idle s [] h = refl
rest-idle s (b ∷ bs) h =
    let e : step s b ≡ s = if-true _ _ _ (eq-eqb _ 4 h) in
    rw e (rest-idle s bs h)

-- nor the end changes anything.
pub end-idle : (s : Scan) → s.phase ≡ 4 → ended s ≡ s
unfolding ended ended_after close
end-idle s h =
    let c : close s ≡ s = if-false _ _ _ (ne_eqb s.phase 1 (λ e. omega arith)) ∙ if-false _ _ _ (ne_eqb s.phase 5 (λ e. omega arith)) in
    rw c (if-false _ _ _ (ne_eqb s.phase 2 (λ e. omega arith)))

-- THEOREM. What is wrong at a place of a line is what is told of the line, whatever follows.
pub fault-kept : (fault place : ℕ) (s : Scan) (bytes : List ℕ) → (fault ≡ 0 → ⊥)
    → finish (scan (faulted fault place s) bytes) ≡ told fault place s
unfolding faulted finish judged told
fault-kept fault place s bytes h =
    rw (rest-idle (faulted fault place s) bytes refl, end-idle (faulted fault place s) refl) (if-false _ _ _ (ne_eqb fault 0 h))

-- ---- a byte where the line goes on
pub step-taken : (s : Scan) (b : ℕ) → (s.phase ≡ 4 → ⊥) → s.cr ≡ 0 → (b ≡ 13 → ⊥) → step s b ≡ ticked (taken s b)
unfolding step
step-taken s b p r n = if-false _ _ _ (ne_eqb _ 4 p) ∙ if-true _ _ _ (eq-eqb _ 0 r) ∙ if-false _ _ _ (ne_eqb b 13 n)
