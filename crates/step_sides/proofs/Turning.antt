-- A table from its other side, for any number w of values.
use mathlib.Core.Bool.{Bool, true, false, not}
use mathlib.Core.List.{List, ◌++◌}
use mathlib.Core.Path.{◌≡◌, refl, sym, ap, ◌∙◌}
use Prim.Native.Nat.{ℕ, ◌-◌, ◌≤◌, ◌<◌}
use native.Mathlib.Omega.{arith}
use lib.Dec.{eqb, ltb}
use lib.ListN.{length, drop, get_or, get_or-append, replicate, length-replicate, length-drop, get_or-replicate, get_or-eq_default, length-append}
use lib.Pow.{pow_pos}
use lib.Seq.{get_or-append_right, get_or-drop}
use borrow.Author.Tests.{eq-eqb, ne_eqb, eqb-true, ltb-true, ltb-false}
use Rattle.bounded.specs.Bool.{and}
use Rattle.bounded.specs.Table.{tabulate}
use Rattle.bounded.proofs.Bool.{by_cases, clash, not-true→false, and_i, and_l, and_r, and-holds, and-fails}
use Rattle.bounded.proofs.Table.{get_d_tabulate, length-tabulate, is-table}
use Rattle.words.specs.Word.{has, word}
use Rattle.words.proofs.Laws.{empty, has_word, has-ruled, has-zero, is_word, word-cong, word_lt}
use Rattle.network.specs.Added.{table_allows}
use Rattle.pairs.specs.Frames.{Stored}
use Rattle.pairs.proofs.Frames.{stored-turned, stored-cong}
use Rattle.step_sides.specs.declared.sides.Side.{Side}
use Rattle.step_sides.specs.Sides.{Apart, cut_at}
use Rattle.step_sides.specs.Turned.{column_at, turned_of, Turns}

-- ---- the rows, and 0 past them

pub padded : (w : ℕ) (table : List ℕ) → length table ≤ w → table ++ drop (length table) (replicate w 0) ≡ tabulate w (λ (k : ℕ). get_or table k 0)
padded w table h =
    is-table w _ _ 0 (omega (arith, length-append {A = ℕ} table (drop (length table) (replicate w 0)), length-drop {A = ℕ} (length table) (replicate w 0), length-replicate {A = ℕ} w 0))
    (λ k l. by_cases (ltb k (length table))
    (λ t. get_or-append table _ 0 k (ltb-true k _ t))
    (λ t. let m = ltb-false k _ t in
    get_or-append_right table _ k 0 m ∙ get_or-drop (length table) (replicate w 0) (k - length table) 0
    ∙ get_or-replicate w _ 0 0 (omega arith) ∙ sym (get_or-eq_default table 0 m)))

-- ---- a column

-- The one member of a word is in another where the two have a common member.
pub holds-is : (w x : ℕ) {d one r : ℕ} → d < w → one ≡ word w (λ (u : ℕ). eqb u d) → r ≡ word w (λ (u : ℕ). and (has x u) (has one u)) → not (eqb r 0) ≡ has x d
holds-is w x {d} {r} l oe re =
    by_cases (has x d)
    (λ t. ap not (ne_eqb r 0 (λ z. clash (at d l ∙ and_i _ _ t (eq-eqb d d refl)) (ap (λ (n : ℕ). has n d) z ∙ has-zero d))) ∙ sym t)
    (λ t. ap not (eq-eqb r 0 (empty w r (rw re (word_lt w _)) (λ v k. at v k ∙ not-true→false _ (λ u.
    clash (ap (has x) (sym (eqb-true v d (and_r _ _ u))) ∙ and_l _ _ u) t)))) ∙ sym t)
  where
    at : (v : ℕ) → v < w → has r v ≡ and (has x v) (eqb v d)
    at v k = has-ruled w _ re v k ∙ ap (and (has x v)) (has-ruled w _ oe v k)

-- Outside the domain it is empty.
pub column-none : (w domain : ℕ) (rows : List ℕ) (d : ℕ) → has domain d ≡ false → 0 ≡ word w (column_at domain rows d)
unfolding column_at
column-none w domain rows d f = is_word w 0 _ (pow_pos w) (λ c _. has-zero c ∙ sym (and-fails _ _ f))

-- The rows say what the table says.
pub column-of : (w domain : ℕ) (table : List ℕ) {rows : List ℕ} (d : ℕ) {r : ℕ} → rows ≡ tabulate w (λ (c : ℕ). get_or table c 0)
    → r ≡ word w (column_at domain rows d) → r ≡ word w (column_at domain table d)
unfolding column_at table_allows
column-of w domain table d e h =
    h ∙ word-cong w _ _ (λ c l. ap (λ (n : ℕ). and (has domain d) (has n d)) (ap (λ (k : List ℕ). get_or k c 0) e ∙ get_d_tabulate w _ c 0 l))

module _ (w domain : ℕ) (table : List ℕ) where
  -- There is a column for each value,
  pub columns-length : length (turned_of w domain table) ≡ w
  unfolding turned_of
  columns-length = length-tabulate w _

  -- and that of a value in the domain says what the table says.
  pub turned-allows : (c d : ℕ) → c < w → d < w → has domain d ≡ true → table_allows (turned_of w domain table) d c ≡ table_allows table c d
  unfolding turned_of column_at table_allows
  turned-allows c d k l h = ap (λ (x : ℕ). has x c) (get_d_tabulate w _ d 0 l) ∙ has_word w _ c k ∙ and-holds _ _ h

-- What is stored from the second leader by the turned table is what the table says from the first.
module _ (w : ℕ) {s t : Side} where
  pub apart-turned : Apart s t → Apart t s
  apart-turned A = record { leaders_apart = λ e. A.leaders_apart (sym e); first_apart = A.second_apart; second_apart = A.first_apart }

  pub cut-turned : {before after table columns : List ℕ} (was : Bool) → Turns w before table s t → columns ≡ turned_of w t.domain table
      → Stored w before after t.leader s.leader (cut_at w before columns t s was) w
      → Stored w before after s.leader t.leader (cut_at w before table s t was) w
  cut-turned {before} {after} was T e st =
      stored-cong w before after w (stored-turned w (rw e at st)) (λ a b _ _ _. T.cut_same was a b)
