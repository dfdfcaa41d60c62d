-- The same fields.
use borrow.Author.Rules.{rules}
use Rattle.stream.specs.Bytes.{start}
use Rattle.bins_text.specs.Machine.{start_reading}
use Rattle.bins_text.specs.Fed.{program}
use Rattle.bins_text.proofs.start.Statement.{statement}
use Rattle.bins_text.proofs.start.Tie as tie

returns : tie.Need-returns
unfolding start start_reading program
returns c = λ n sizes counts. rw c.opening-scan.ensures

pub start_spec : {M : Type 1} → statement M
start_spec = tie.close (tie.spec (λ c κs. search rules) returns)
