-- The value is a member where the count is not 0.
use borrow.Author.Rules.{rules}
use Rattle.survey.proofs.Tallying.{unmarked, marked_by}
use Rattle.survey.proofs.tally.marked.Statement.{statement}
use Rattle.survey.proofs.tally.marked.Tie as tie

returns : tie.Need-returns-then-here-eq0
returns c u = unmarked _ _ _ u c.if-here-eq0.true

returns-2 : tie.Need-returns
returns-2 c u =
    let s = c in
    marked_by _ _ _ _ _ u s.ranges.word.fits c.if-here-eq0.false c.single.ensures c.either.ensures s.requires

pub marked_spec : {M : Type 1} → statement M
marked_spec = tie.close (tie.spec returns (λ c κs. search rules) (λ c κs. search rules) returns-2)
