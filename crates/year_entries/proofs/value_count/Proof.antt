-- `count_none`, `count-all` and `count-some`.
use native.Mathlib.Omega.{arith}
use Rattle.year_entries.proofs.Values.{count_none, count-all, count-some}
use borrow.Author.Rules.{rules}
use Rattle.year_entries.proofs.value_count.Statement.{statement}
use Rattle.year_entries.proofs.value_count.Tie as tie

returns : tie.Need-returns-then-count-lt1
returns c = count_none c.args.count c.args.cells c.if-count-lt1.true

returns-2 : tie.Need-returns-then-count-gt17
returns-2 c = let a = c.args in count-all a.count a.cells (search rules) c.if-count-gt17.true

returns-3 : tie.Need-returns
returns-3 c = let a = c.args in count-some a.count a.cells (search rules) (omega arith) (omega arith)

pub value_count_spec : {M : Type 1} → statement M
value_count_spec =
    tie.close
    (tie.spec
    returns
    returns-2
    returns-3)
