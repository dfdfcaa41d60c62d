-- The partners of the other domain, cut to the own: `supported-is`.
use borrow.Author.Rules.{rules}
use Rattle.step_compose.proofs.Composition.{supported-is}
use Rattle.step_compose.proofs.supported.Statement.{statement}
use Rattle.step_compose.proofs.supported.Tie as tie

returns : tie.Need-returns
returns c = let s = c.args in supported-is 32 _ s.i s.j s.di s.dj c.partners.ensures c.both.ensures

pub supported_spec : {M : Type 1} → statement M
supported_spec = tie.close (tie.spec (λ c κs. search rules) (λ c κs. search rules) returns)
