-- An array that a loop fills from the front, one store a turn: what `tabulate` says of it at the end.
use mathlib.Core.List.{List}
use mathlib.Core.Path.{◌≡◌, refl, ap, ◌∙◌}
use Prim.Native.Nat.{ℕ, zero, suc, ◌+◌, ◌≤◌, ◌<◌}
use native.Mathlib.Omega.{arith}
use lib.Dec.{eqb}
use lib.ListN.{length, get_or, set, replicate, length-set, length-replicate}
use borrow.Author.Tests.{eqb-true, eqb-false}
use Rattle.bounded.specs.Table.{tabulate}
use Rattle.bounded.proofs.Bool.{by_cases, if-true, if-false}
use Rattle.bounded.proofs.Table.{is-table, get_d_set}

-- An array of zeros; its length is an argument, so that no list is written out.
get_d-zeros : (n k : ℕ) → get_or {A = ℕ} (replicate n 0) k 0 ≡ 0
get_d-zeros zero k = refl
get_d-zeros (suc n) zero = refl
get_d-zeros (suc n) (suc k) = get_d-zeros n k

pub zeros-at : (n : ℕ) (l : List ℕ) → l ≡ replicate n 0 → (k : ℕ) → get_or l k 0 ≡ 0
zeros-at n l e k = ap (λ x. get_or x k 0) e ∙ get_d-zeros n k

pub zeros-length : (n : ℕ) (l : List ℕ) → l ≡ replicate n 0 → length l ≡ n
zeros-length n l e = ap length e ∙ length-replicate {A = ℕ} n 0

-- The first i of n elements are those of f.
pub record Filled (n : ℕ) (f : ℕ → ℕ) (l : List ℕ) (i : ℕ) : Type 0 where
  pub whole : length l ≡ n
  pub done : (k : ℕ) → k < i → get_or l k 0 ≡ f k

module _ (n : ℕ) {f : ℕ → ℕ} {l : List ℕ} where
  pub filled_none : length l ≡ n → Filled n f l 0
  filled_none e = record { whole = e; done = λ k h. absurd (let x : ⊥ = omega arith in x) }

  pub filled_more : {i v : ℕ} → Filled n f l i → i < n → v ≡ f i → Filled n f (set l i v) (i + 1)
  filled_more {i} {v} F h e =
      record {
        whole = length-set l i v ∙ F.whole;
        done =
            λ k m.
            let b : i < length l = omega (arith, F.whole) in
            get_d_set l i k v 0 b
            ∙ by_cases (eqb k i)
            (λ t. if-true _ _ _ t ∙ rw (eqb-true k i t) e)
            (λ t. if-false _ _ _ t ∙ F.done k (let d : k ≡ i → ⊥ = eqb-false k i t in below k d m));
      }
    where
      below : (k : ℕ) → (k ≡ i → ⊥) → k < i + 1 → k < i
      below k d m = omega arith

  pub filled-end : {i : ℕ} → Filled n f l i → n ≤ i → l ≡ tabulate n f
  filled-end F h = is-table n f l 0 F.whole (λ k m. F.done k (omega arith))
