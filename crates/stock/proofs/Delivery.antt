-- A delivery on counts is the delivery on their bins.
use mathlib.Core.Bool.{Bool, true, false}
use mathlib.Core.List.{List, map}
use mathlib.Core.Path.{◌≡◌, refl, sym, ap, subst, ◌∙◌}
use Prim.Native.Nat.{ℕ, suc, ◌+◌, ◌-◌, ◌≤◌, ◌<◌, ◌^◌}
use native.Mathlib.Omega.{arith}
use lib.Dec.{eqb, leb, ltb}
use lib.ListN.{length, get_or}
use borrow.Author.Tests.{eqb-true, eqb-false, eq-eqb, ne_eqb}
use Rattle.bounded.specs.Bool.{and, or, not, if}
use Rattle.bounded.proofs.Bool.{by_cases, bool-ext, clash, and_l, and_r, and_i, or_l, or_r, or-false-i, not-i, not-false-i, if-true, if-false}
use Rattle.bins.specs.declared.Bin.{Bin}
use Rattle.bins.specs.Bins.{Place, places, stand_at, any, is_of, with_count, added}
use Rattle.bins_counts.specs.Counts.{bin_of_place, spot, changed_at}
use Rattle.bins_counts.proofs.Bins.{bins-stand, bins-map, any-spot, spot-any}
use Rattle.bins_counts.proofs.Changed.{length-changed, changed-here, changed-else, same-variable, same-value}
use Rattle.state.specs.declared.state.State.{State}
use Rattle.state.specs.View.{sound_state}
use Rattle.state_bins.specs.Bins.{bin_places, bins_refusal, has_value, exceeds, delivery_number, delivered_bins}
use Rattle.stock.specs.Stock.{bins_of, CountsDelivered}
use Rattle.stock.proofs.Sizes.{value-from, value-to, value-below}

refusing : {k : ℕ} → k ≡ 28 → k ≡ 0 → ⊥
refusing e z = omega (arith, e, z)

module _ (s : State) (t : sound_state s ≡ true) (counts : List ℕ) where
  -- The bins of counts stand where they must, so that 27 never comes.
  pub stands : stand_at (bins_of s counts) (bin_places s) ≡ true
  unfolding bin_places
  stands = bins-stand s.n s.sizes counts

  pub own-number : (own : ℕ) → bins_refusal s (bins_of s counts) own ≡ own
  unfolding bins_refusal
  own-number own = if-false _ _ _ (not-false-i _ t) ∙ if-false _ _ _ (not-false-i _ stands)

  module _ (variable value amount : ℕ) where
    number_by : (b : Bool) → or (not (has_value s variable value)) (any (exceeds variable value amount) (bins_of s counts)) ≡ b
        → delivery_number s (bins_of s counts) variable value amount ≡ if b 28 0
    unfolding delivery_number
    number_by b e = own-number _ ∙ ap (λ (x : Bool). if x 28 0) e

    refused_as : delivery_number s (bins_of s counts) variable value amount ≡ 28 → CountsDelivered s counts counts variable value amount 28
    unfolding delivered_bins
    refused_as e =
        record {
          number_is = sym e;
          bins_are = sym (if-false _ _ _ (ne_eqb _ 0 (refusing e)));
          same_length = refl;
        }

    -- Refused: no such value,
    pub no_value : has_value s variable value ≡ false → CountsDelivered s counts counts variable value amount 28
    unfolding if
    no_value h = refused_as (number_by true (or_l _ _ (not-i _ h)))

    module _ (h : has_value s variable value ≡ true) where
      abbrev o : ℕ
      o = variable - 1

      abbrev at : ℕ
      at = spot s.sizes (variable - 1) value

      up : suc o ≡ variable
      up = omega (arith, value-from s variable value h)

      in_n : o < s.n
      in_n = omega (arith, value-from s variable value h, value-to s variable value h)

      -- The bin of the value is the one at its index.
      is_at : (x v c : ℕ) → is_of variable value (bin_of_place (suc x, v) c) ≡ true → spot s.sizes x v ≡ at
      unfolding is_of
      is_at x v c e =
          let q : x ≡ o = omega (arith, eqb-true (suc x) variable (and_l _ _ e)) in
          λ i. spot s.sizes (q i) (eqb-true v value (and_r _ _ e) i)

      at-is : (x v c : ℕ) → v < get_or s.sizes x 0 → spot s.sizes x v ≡ at → is_of variable value (bin_of_place (suc x, v) c) ≡ true
      unfolding is_of
      at-is x v c b e =
          let q = same-variable s.sizes x o v value b (value-below s variable value h) e in
          and_i _ _ (eq-eqb (suc x) variable (omega (arith, up, q))) (eq-eqb v value (same-value s.sizes x o v value b (value-below s variable value h) e))

      exceeds-at : any (exceeds variable value amount) (bins_of s counts) ≡ leb (2 ^ 32) (get_or counts at 0 + amount)
      unfolding exceeds
      exceeds-at =
          bool-ext _ _
          (λ e. any-spot s.n s.sizes counts _ e
          (λ x v l b p. subst (λ (k : ℕ). leb (2 ^ 32) (get_or counts k 0 + amount) ≡ true) (is_at x v _ (and_l _ _ p)) (and_r _ _ p)))
          (λ e. spot-any s.n s.sizes counts _ o value in_n (value-below s variable value h)
          (and_i _ _ (at-is o value _ (value-below s variable value h) refl) e))

      -- a count that would exceed 32 bits;
      pub too_many : leb (2 ^ 32) (get_or counts at 0 + amount) ≡ true → CountsDelivered s counts counts variable value amount 28
      unfolding if
      too_many e = refused_as (number_by true (or_r _ _ (exceeds-at ∙ e)))

      -- taken: the one bin has the amount more.
      abbrev after : List ℕ
      after = changed_at (λ (x : ℕ). x + amount) counts at

      one_bin : at < length counts → (x v : ℕ) → v < get_or s.sizes x 0
          → if (is_of variable value (bin_of_place (suc x, v) (get_or counts (spot s.sizes x v) 0)))
          (bin_of_place (suc x, v) (get_or counts (spot s.sizes x v) 0 + amount)) (bin_of_place (suc x, v) (get_or counts (spot s.sizes x v) 0))
          ≡ bin_of_place (suc x, v) (get_or after (spot s.sizes x v) 0)
      one_bin l x v b =
          by_cases (is_of variable value (bin_of_place (suc x, v) (get_or counts (spot s.sizes x v) 0)))
          (λ e. if-true _ _ _ e ∙ ap (bin_of_place (suc x, v)) (sym (changed-here (λ (k : ℕ). k + amount) counts at (spot s.sizes x v) l (is_at x v _ e))))
          (λ e. if-false _ _ _ e
          ∙ ap (bin_of_place (suc x, v)) (sym (changed-else (λ (k : ℕ). k + amount) counts at (spot s.sizes x v) l (λ q. clash (at-is x v _ b q) e))))

      pub taken : at < length counts → leb (2 ^ 32) (get_or counts at 0 + amount) ≡ false → CountsDelivered s counts after variable value amount 0
      unfolding delivered_bins if
      taken l e =
          let z : delivery_number s (bins_of s counts) variable value amount ≡ 0 = number_by false (or-false-i _ _ (not-false-i _ h) (exceeds-at ∙ e)) in
          record {
            number_is = sym z;
            bins_are = sym (if-true _ _ _ (eq-eqb _ 0 z) ∙ bins-map s.n s.sizes counts _ after (λ x v m b. one_bin l x v b));
            same_length = length-changed _ counts at;
          }
