-- Past its bits a word has no member.
use mathlib.Core.Path.{sym}
use native.Mathlib.Omega.{arith}
use borrow.Author.Rules.{rules}
use Rattle.words.specs.Word.{width}
use Rattle.words.proofs.Laws.{has-past}
use Rattle.solutions.proofs.values.has_number.Statement.{statement}
use Rattle.solutions.proofs.values.has_number.Tie as tie

returns : tie.Need-returns-then-v-ge-WIDTH
returns c = sym (has-past width _ _ c.ranges.members.fits (omega arith))

returns-2 : tie.Need-returns
returns-2 c = c.member.ensures

pub has_number_spec : {M : Type 1} → statement M
has_number_spec = tie.close (tie.spec returns (λ c κs. search rules) returns-2)
