-- Each answer is a case of rule 3.
use borrow.Author.Rules.{rules}
use Rattle.step_parts.proofs.StepArrays.{follower-of-j-led, other-led}
use Rattle.step_parts.proofs.head_after.leader_after.Statement.{statement}
use Rattle.step_parts.proofs.head_after.leader_after.Tie as tie

pub leader_after_spec : {M : Type 1} → statement M
leader_after_spec =
    tie.close
    (tie.spec
    (λ c. search rules)
    (λ c. search rules)
    (λ c. search rules)
    (λ c. search rules)
    (λ c. follower-of-j-led c.args.i c.args.j c.args.leader (search rules))
    (λ c. other-led c.args.i c.args.j c.args.leader (search rules)))
