-- The text by the cases of its next line.
use mathlib.Core.Bool.{true, false}
use mathlib.Core.List.{List, [], ◌∷◌}
use mathlib.Core.Path.{◌≡◌, ◌∙◌}
use Prim.Native.Nat.{ℕ}
use lib.Dec.{eqb}
use lib.ListN.{get_or}
use Rattle.bounded.proofs.Bool.{if-true, if-false}
use Rattle.bins.specs.Bins.{Place}
use Rattle.scan.specs.declared.Line.{Line}
use Rattle.scan.specs.Scan.{up}
use Rattle.bins_text.specs.Text.{stopped, counted, is_at, read_lines}

module _ (line : ℕ) (l : Line) (ls : List Line) where
  pub lines-fault : (left : List Place) → eqb l.fault 0 ≡ false → read_lines left line (l ∷ ls) ≡ stopped l.fault line l.place
  unfolding read_lines
  lines-fault [] f = if-false _ _ _ f
  lines-fault (p ∷ left) f = if-false _ _ _ f

  module _ (f : eqb l.fault 0 ≡ true) where
    pub lines-blank : (left : List Place) → eqb l.count 0 ≡ true → read_lines left line (l ∷ ls) ≡ read_lines left (up line) ls
    unfolding read_lines
    lines-blank [] b = if-true _ _ _ f ∙ if-true _ _ _ b
    lines-blank (p ∷ left) b = if-true _ _ _ f ∙ if-true _ _ _ b

    module _ (b : eqb l.count 0 ≡ false) where
      pub lines-past : read_lines [] line (l ∷ ls) ≡ stopped 27 line 0
      unfolding read_lines
      lines-past = if-true _ _ _ f ∙ if-false _ _ _ b

      pub lines_at : (p : Place) (left : List Place) → is_at p l ≡ true → read_lines (p ∷ left) line (l ∷ ls) ≡ counted (get_or l.cells 2 0) (read_lines left (up line) ls)
      unfolding read_lines
      lines_at p left a = if-true _ _ _ f ∙ if-false _ _ _ b ∙ if-true _ _ _ a

      pub lines-off : (p : Place) (left : List Place) → is_at p l ≡ false → read_lines (p ∷ left) line (l ∷ ls) ≡ stopped 27 line 0
      unfolding read_lines
      lines-off p left a = if-true _ _ _ f ∙ if-false _ _ _ b ∙ if-false _ _ _ a
