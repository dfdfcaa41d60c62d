-- A follower's pairs are not looked at.
use borrow.Author.Rules.{rules}
use Rattle.solutions.proofs.Choices.{side-led, side-free}
use Rattle.solutions_head.proofs.side_apart.Statement.{statement}
use Rattle.solutions_head.proofs.side_apart.Tie as tie

returns : tie.Need-returns-then-leader-ne0
returns c = side-led 32 _ _ c.if-leader-ne0.true

returns-2 : tie.Need-returns
returns-2 c = side-free 32 _ _ c.if-leader-ne0.false c.both.ensures

pub side_apart_spec : {M : Type 1} → statement M
side_apart_spec = tie.close (tie.spec returns (λ c κs. search rules) returns-2)
