-- A word without its lowest member is 0 unless it has a second one: `crowded-dropped`.
use borrow.Author.Rules.{rules}
use Rattle.words.proofs.Laws.{crowded-none, crowded-dropped}
use Rattle.words.proofs.crowded.Statement.{statement}
use Rattle.words.proofs.crowded.Tie as tie

returns : tie.Need-returns-then-x-eq0
returns c = crowded-none 32 c.if-x-eq0.true

returns-2 : tie.Need-returns
returns-2 c = crowded-dropped 32 _ c.ranges.x.fits c.if-x-eq0.false c.dropped.ensures

pub crowded_spec : {M : Type 1} → statement M
crowded_spec = tie.close (tie.spec returns (λ c κs. search rules) returns-2)
