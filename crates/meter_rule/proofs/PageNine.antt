-- Page nine as a table: its rows, and that they allow what goes together.
use mathlib.Core.Bool.{true}
use mathlib.Core.Path.{◌≡◌, refl, sym, ap, ◌∙◌}
use Prim.Native.Nat.{ℕ, ◌<◌}
use lib.Dec.{ltb}
use lib.ListN.{get_or}
use borrow.Author.Tests.{ltb-true, ltb-false}
use Rattle.bounded.specs.Bool.{and, bit}
use Rattle.bounded.specs.Fold.{sum}
use Rattle.bounded.specs.Table.{tabulate}
use Rattle.bounded.proofs.Bool.{by_cases, and_i, and_l, and_r, and-false, and-fails, and-holds}
use Rattle.bounded.proofs.Table.{get_d_tabulate, get_d-tabulate-past}
use Rattle.words.specs.Word.{has, word}
use Rattle.words.proofs.Laws.{has_word, has-word-past, has-zero}
use Rattle.meter_rule.specs.PageNine.{capacities, seconds, draws, goes_with, go_together, row_of, page_nine, PageNineIs}

pub page-nine-is : PageNineIs
unfolding page_nine row_of go_together goes_with capacities seconds draws tabulate word sum bit and
page-nine-is =
    record {
      rows = refl;
      at_8 = (1, 0, refl, refl, refl);
      at_16 = (0, 1, refl, refl, refl);
    }

pub page-nine-allows : (c d : ℕ) → has (get_or page_nine c 0) d ≡ go_together c d
unfolding page_nine row_of go_together
page-nine-allows c d =
    by_cases (ltb c 4)
    (λ p. ap (λ (x : ℕ). has x d) (get_d_tabulate 4 _ c 0 (ltb-true c 4 p))
    ∙ by_cases (ltb d 4)
    (λ q. has_word 4 _ d (ltb-true d 4 q) ∙ sym (and-holds _ _ (and_i _ _ p q)))
    (λ q. has-word-past 4 _ d (ltb-false d 4 q) ∙ sym (and-fails _ _ (ap (and (ltb c 4)) q ∙ and-false _))))
    (λ p. ap (λ (x : ℕ). has x d) (get_d-tabulate-past 4 _ c 0 (ltb-false c 4 p)) ∙ has-zero d ∙ sym (and-fails _ _ (and-fails _ _ p)))

-- No bit stands at or above four.
pub page-nine-below : (c d : ℕ) → has (get_or page_nine c 0) d ≡ true → d < 4
unfolding go_together
page-nine-below c d h = ltb-true d 4 (and_r _ _ (and_l _ _ (sym (page-nine-allows c d) ∙ h)))
