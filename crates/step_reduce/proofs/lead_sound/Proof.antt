-- It is the run that the named variable leads.
use borrow.Author.Rules.{rules}
use Rattle.step_reduce.proofs.Reducing.{named-leads}
use Rattle.step_reduce.proofs.lead_sound.Statement.{statement}
use Rattle.step_reduce.proofs.lead_sound.Tie as tie

returns : tie.Need-returns
returns c = named-leads _ _ _ _ _ c.run_sound.ensures

pub lead_sound_spec : {M : Type 1} → statement M
lead_sound_spec = tie.close (tie.spec (λ c κs. search rules) returns)
