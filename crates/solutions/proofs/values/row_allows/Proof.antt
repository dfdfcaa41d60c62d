-- A value past the bits of a word has no row.
use mathlib.Core.Path.{sym}
use native.Mathlib.Omega.{arith}
use borrow.Author.Rules.{rules}
use Rattle.words.specs.Word.{width}
use Rattle.pairs.proofs.Frames.{past_first}
use Rattle.solutions.proofs.Choices.{row-tells}
use Rattle.solutions.proofs.values.row_allows.Statement.{statement}
use Rattle.solutions.proofs.values.row_allows.Tie as tie

returns : tie.Need-returns-then-value-ge-WIDTH
returns c = let s = c.args in sym (past_first width _ s.i s.j _ _ (omega (arith, c.wide-value.ensures)))

returns-2 : tie.Need-returns
returns-2 c =
    let s = c.args in
    row-tells width _ s.i s.j _ c.wide-value.ensures c.stored_row.ensures c.has_value.ensures

pub row_allows_spec : {M : Type 1} → statement M
row_allows_spec = tie.close (tie.spec (λ c κs. search rules) returns (λ c κs. search rules) (λ c κs. search rules) returns-2)
