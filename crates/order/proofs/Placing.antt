-- The first good order, place after place.
use mathlib.Core.Bool.{Bool, false}
use mathlib.Core.List.{List}
use mathlib.Core.Path.{◌≡◌, refl, sym, ap, ◌∙◌}
use Prim.Native.Nat.{ℕ, suc, ◌+◌, ◌≤◌, ◌<◌}
use native.Mathlib.Numerals.{add-one}
use native.Mathlib.Omega.{arith}
use lib.Dec.{eqb, ltb}
use lib.ListN.{length, get_or, set}
use borrow.Author.Tests.{eq-eqb, ne_eqb, ltb-true, ltb-false}
use Rattle.bounded.specs.Bool.{and, not}
use Rattle.bounded.specs.Fold.{first}
use Rattle.bounded.specs.Table.{tabulate}
use Rattle.bounded.proofs.Bool.{by_cases, clash, if-true, if-false}
use Rattle.bounded.proofs.Fold.{first_cong, first_passes, first-le}
use Rattle.bounded.proofs.Fill.{Filled, filled_none, filled_more, filled-end}
use Rattle.words.specs.Word.{width, has, word}
use Rattle.cause.specs.declared.Cause.TheVariants.{SolutionLength}
use Rattle.network.specs.Network.{Network}
use Rattle.network.specs.Sound.{Sound}
use Rattle.network.specs.Reach.{reach}
use Rattle.network.specs.Order.{placed, found, found_order, find_refusal, find_order}
use Rattle.network.proofs.Order.{find-0}
use Rattle.order.specs.Orders.{Governed, may_come, found_buffer}
use Rattle.order.proofs.Left.{left_of, left-all, left_less, may-permitted}

-- Where none passes, the search ends at the bound.
pub first-none : (n : ℕ) (p : ℕ → Bool) → ((k : ℕ) → k < n → p k ≡ false) → first n p ≡ n
first-none n p none =
    by_cases (ltb (first n p) n)
    (λ t. let l = ltb-true (first n p) n t in clash (first_passes n p l) (none (first n p) l))
    (λ t. omega (arith, ltb-false (first n p) n t, first-le n p))

-- The first p places, and who is left: of whoever governs whom.
pub record Placing (n : ℕ) (R : ℕ → ℕ → Bool) (p left : ℕ) (order : List ℕ) : Type 0 where
  pub first_places : Filled n (λ (q : ℕ). suc (found n R q)) order p
  pub left_is : left ≡ left_of n (placed n R p)

module _ (n : ℕ) {R : ℕ → ℕ → Bool} where
  pub placing-none : {left : ℕ} {order : List ℕ} → length order ≡ n → left ≡ word width (λ (u : ℕ). ltb u n) → Placing n R 0 left order
  unfolding placed
  placing-none e le = record { first_places = filled_none n e; left_is = left-all n _ (λ v. refl) le }

  -- The smallest that may come is the one that is found.
  next-found : {over : List ℕ} (p : ℕ) {left i : ℕ} → n ≤ width → Governed n R over → left ≡ left_of n (placed n R p)
      → i ≡ first n (λ (x : ℕ). may_come left (get_or over x 0) x) → i ≡ found n R p
  unfolding found
  next-found p b G le e = e ∙ first_cong n _ _ λ x l. may-permitted n _ x b G l le

  pub placing-more : {over : List ℕ} {p left i one left' : ℕ} {order : List ℕ} → n ≤ width → Governed n R over → p < n → Placing n R p left order
      → i ≡ first n (λ (x : ℕ). may_come left (get_or over x 0) x)
      → one ≡ word width (λ (u : ℕ). eqb u i)
      → left' ≡ word width (λ (u : ℕ). and (has left u) (not (has one u)))
      → Placing n R (p + 1) left' (set order p (i + 1))
  unfolding placed found
  placing-more {p} {i = i} b G l P ie oe le =
      let is = next-found p b G P.left_is ie in
      record {
        first_places = filled_more n P.first_places l (add-one i ∙ ap suc is);
        left_is = rw (add-one p) (left_less n _ (placed n R (suc p)) i P.left_is oe le (λ v. rw is refl));
      }

  pub placing-end : {p left : ℕ} {order : List ℕ} → n ≤ p → Placing n R p left order → order ≡ tabulate n (λ (q : ℕ). suc (found n R q))
  placing-end l P = filled-end n P.first_places l

-- The buffer of a network: the order that is found where it has the length, and as it was where not.
module _ (N : Network) (S : Sound N) (buffer : List ℕ) where
  pub buffer-found : {after : List ℕ} → length buffer ≡ N.n → after ≡ tabulate N.n (λ (q : ℕ). suc (found N.n (reach N) q))
      → (find_refusal N (length buffer) ≡ 0) × (after ≡ found_buffer N buffer)
  unfolding found_buffer find_order found_order
  buffer-found l e =
      let z = (find-0 N S (length buffer)).1 l in
      (z, e ∙ sym (if-true _ _ _ (eq-eqb _ 0 z)))

  pub buffer-refused : (length buffer ≡ N.n → ⊥) → ((find_refusal N (length buffer) ≡ 0 → ⊥) × (SolutionLength ≡ SolutionLength)) × (buffer ≡ found_buffer N buffer)
  unfolding found_buffer
  buffer-refused d =
      let no : find_refusal N (length buffer) ≡ 0 → ⊥ = λ z. d ((find-0 N S (length buffer)).0 z) in
      ((no, refl), sym (if-false _ _ _ (ne_eqb _ 0 no)))
