use Rattle.std.proofs.Common.{arith}
use Rattle.std.proofs.lemmas.Result.{err_from_is_err_and}
use Rattle.read_field.proofs.Fields.{read-got, read-bad}
use Rattle.read_rows.proofs.Rows.{rows_none, rows_more, rows-refused, rows_end}
use Rattle.read_rows.proofs.walk_rows.Goals as goal

pub loop-init : goal.loop-init
loop-init c = rows_none (omega arith)

pub returns-in_err-row : goal.returns-in_err-row
returns-in_err-row c =
    let p = err_from_is_err_and c.from_residual.result c.from_residual.ensures.1 in
    rw (p.1, p.2) (rows-refused c.loop.invariant (omega arith) (read-bad c.row_field.ensures c.in_err-row.was))

pub loop-preserved : goal.loop-preserved
loop-preserved c = rows_more c.loop.invariant (omega arith) (read-got c.row_field.ensures c.in_ok-row.was)

pub returns : goal.returns
returns c = rows_end c.loop.invariant (omega arith)
