-- The partners of the leader's list, cut to the follower's, are that list exactly when it has no other value: `trimmed-is`.
use borrow.Author.Rules.{rules}
use Rattle.soundness.proofs.Tests.{trimmed-is}
use Rattle.soundness.proofs.trimmed_to.Statement.{statement}
use Rattle.soundness.proofs.trimmed_to.Tie as tie

returns : tie.Need-returns
returns c =
    let s = c.args in
    trimmed-is _ s.i s.l s.di s.dl (search rules) c.partners.ensures c.both.ensures

pub trimmed_to_spec : {M : Type 1} → statement M
trimmed_to_spec = tie.close (tie.spec (λ c κs. search rules) (λ c κs. search rules) returns)
