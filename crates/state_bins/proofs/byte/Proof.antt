-- Past the buffer there is nothing to read.
use mathlib.Core.Path.{sym}
use lib.ListN.{get_or-eq_default}
use borrow.Author.Rules.{rules}
use Rattle.state.specs.Solutions.{values_of}
use Rattle.state_bins.proofs.byte.Statement.{statement}
use Rattle.state_bins.proofs.byte.Tie as tie

returns : tie.Need-returns-then-i-solution
unfolding values_of
returns c = search rules

returns-2 : tie.Need-returns
unfolding values_of
returns-2 c = sym (get_or-eq_default c.args.solution.now 0 c.if-i-solution.false)

pub byte_spec : {M : Type 1} → statement M
byte_spec = tie.close (tie.spec (λ c. search rules) returns returns-2)
