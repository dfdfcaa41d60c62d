-- One case for each number.
use borrow.Author.Tests.{ne_eqb}
use Rattle.bounded.specs.Bool.{if}
use Rattle.answers.specs.Answers.{outcome_number}
use Rattle.state_bins.specs.Numbers.{one_of}
use Rattle.state_bins.proofs.outcome_of.Statement.{statement}
use Rattle.state_bins.proofs.outcome_of.Tie as tie

returns : tie.Need-returns-in-0
unfolding outcome_number one_of if
returns c = simp c.in-0.is

returns-2 : tie.Need-returns-in-9
unfolding outcome_number one_of if
returns-2 c = simp c.in-9.is

returns-3 : tie.Need-returns-in-27
unfolding outcome_number one_of if
returns-3 c = simp c.in-27.is

returns-4 : tie.Need-returns-in-28
unfolding outcome_number one_of if
returns-4 c = simp c.in-28.is

returns-5 : tie.Need-returns-in_default
unfolding outcome_number one_of if
returns-5 c = simp (ne_eqb _ _ c.in_default.in_default-own.rest.0.0.0.1, ne_eqb _ _ c.in_default.in_default-own.rest.0.0.1, ne_eqb _ _ c.in_default.in_default-own.rest.0.1, ne_eqb _ _ c.in_default.in_default-own.rest.1)

pub outcome_of_spec : {M : Type 1} → statement M
outcome_of_spec = tie.close (tie.spec returns returns-2 returns-3 returns-4 returns-5)
