-- The full reduction is the run that the lowest variable with a legal follower leads.
use borrow.Author.Rules.{rules}
use Rattle.step_reduce.proofs.Reducing.{lowest-reduces}
use Rattle.step_reduce.proofs.reduce_sound.Statement.{statement}
use Rattle.step_reduce.proofs.reduce_sound.Tie as tie

returns : tie.Need-returns
returns c = lowest-reduces _ _ _ _ c.run_sound.ensures

pub reduce_sound_spec : {M : Type 1} → statement M
reduce_sound_spec = tie.close (tie.spec (λ c κs. search rules) returns)
