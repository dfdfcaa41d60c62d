-- A follower's domain is not looked at.
use Rattle.solutions.proofs.Choices.{domain-led, domain-live}
use Rattle.solutions_head.proofs.domain_open.Statement.{statement}
use Rattle.solutions_head.proofs.domain_open.Tie as tie

returns : tie.Need-returns-then-leader-ne0
returns c = domain-led _ _ c.if-leader-ne0.true

returns-2 : tie.Need-returns
returns-2 c = domain-live _ _ c.if-leader-ne0.false

pub domain_open_spec : {M : Type 1} → statement M
domain_open_spec = tie.close (tie.spec returns returns-2)
