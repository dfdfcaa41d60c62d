-- The same fields.
use borrow.Author.Rules.{rules}
use Rattle.bins_text.specs.Machine.{passed}
use Rattle.bins_text.proofs.passed.Statement.{statement}
use Rattle.bins_text.proofs.passed.Tie as tie

returns : tie.Need-returns
unfolding passed
returns c = rw c.up.ensures

pub passed_spec : {M : Type 1} → statement M
passed_spec = tie.close (tie.spec (λ c κs. search rules) returns)
