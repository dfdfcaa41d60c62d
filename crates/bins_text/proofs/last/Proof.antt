-- With a last line that no line feed ends, or without.
use borrow.Author.Rules.{rules}
use Rattle.bounded.proofs.Bool.{if-true, if-false}
use Rattle.stream.specs.Bytes.{last_state}
use Rattle.bins_text.specs.Machine.{at_end}
use Rattle.bins_text.specs.Fed.{program}
use Rattle.bins_text.proofs.last.Statement.{statement}
use Rattle.bins_text.proofs.last.Tie as tie

returns : tie.Need-returns-then-run
unfolding last_state at_end program
returns c = let a = c in let f = a in let t = f in rw (c.judged_end.ensures, if-true _ _ _ t.if-run.true, ← f.finish.ensures, ← a.act-after.ensures)

returns-2 : tie.Need-returns
unfolding last_state at_end program
returns-2 c = let t = c in rw (c.judged_end-2.ensures, if-false _ _ _ t.if-run.false)

pub last_spec : {M : Type 1} → statement M
last_spec = tie.close (tie.spec (λ c κs. search rules) (λ c κs. search rules) (λ c κs. search rules) returns (λ c κs. search rules) returns-2)
