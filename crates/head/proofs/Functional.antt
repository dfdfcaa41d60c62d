-- The ones of row AND domain decide whether a pair is functional: in a sound network each domain lies within its size, so that counting all the values of a
-- word counts no other.
use mathlib.Core.Bool.{true}
use mathlib.Core.List.{List}
use mathlib.Core.Path.{◌≡◌, sym, ap, ◌∙◌}
use Prim.Native.Nat.{ℕ, ◌≤◌}
use native.Mathlib.Omega.{arith}
use lib.Dec.{leb}
use lib.ListN.{get_or}
use borrow.Author.Tests.{le-leb}
use Rattle.bounded.specs.Bool.{and}
use Rattle.bounded.specs.Fold.{count}
use Rattle.bounded.proofs.Bool.{bool-ext, true-and, and_l, implies-i, implies-e, not-true→false}
use Rattle.bounded.proofs.Fold.{every-i, every-e, count-widen}
use Rattle.words.specs.Word.{width}
use Rattle.network.specs.Network.{partner, functional}
use Rattle.pairs.specs.Pairs.{partners_at, partners_within}
use Rattle.head.specs.declared.Head.{Head}
use Rattle.head.specs.Held.{HeadShaped, held, sound_in}
use Rattle.head.proofs.Held.{held-sound, held-size}

module _ {h : Head} (rows : List ℕ) (S : HeadShaped h) (t : sound_in h rows ≡ true) where
  size_fits : (i : ℕ) → get_or h.sizes i 0 ≤ width
  size_fits i = omega (arith, held-size h rows S t i)

  partners-counted : (i j a : ℕ) → partners_at width rows i j (get_or h.domains j 0) a ≡ count ((held h rows).size j) (partner (held h rows) i j a)
  unfolding held partner partners_at
  partners-counted i j a =
      count-widen _ width _ (size_fits j) (λ b l. not-true→false _ (λ u.
      let m = (held-sound h rows S t).domain_in j b (and_l _ _ u) in let z : ⊥ = omega arith in z))

  pub functional-counted : (i j : ℕ) → partners_within width rows i j (get_or h.domains i 0) (get_or h.domains j 0) 0 1 ≡ functional (held h rows) i j
  unfolding functional partners_within held
  functional-counted i j =
      let one : (a : ℕ) → and (leb 0 (partners_at width rows i j (get_or h.domains j 0) a)) (leb (partners_at width rows i j (get_or h.domains j 0) a) 1)
      ≡ leb (count (get_or h.sizes j 0) (partner (held h rows) i j a)) 1 =
      λ a. rw (le-leb 0 (partners_at width rows i j (get_or h.domains j 0) a) (omega arith)) (true-and _ ∙ ap (λ (k : ℕ). leb k 1) (partners-counted i j a)) in
      bool-ext _ _
      (λ e. every-i _ _ (λ a l. implies-i _ _ (λ d. sym (one a) ∙ implies-e _ _ (every-e width _ e a (omega (arith, size_fits i))) d)))
      (λ e. every-i width _ (λ a l. implies-i _ _ (λ d. one a ∙ implies-e _ _ (every-e _ _ e a ((held-sound h rows S t).domain_in i a d)) d)))
