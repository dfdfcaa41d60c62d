use Rattle.std.proofs.Common.{rules, arith}
use Rattle.read_tables.proofs.TablesLoop.{tables-none, tables_more, tables-stop, tables_end, stop-end, stop-fault}
use Rattle.read_tables.proofs.take_tables.Goals as goal

pub loop-init : goal.loop-init
loop-init c = search (tables-none, rules)

pub returns-in_default : goal.returns-in_default
returns-in_default c = stop-fault (tables-stop c.loop.invariant (omega arith) (c.take_table-table.ensures.none c.in_default.is))

pub loop-preserved : goal.loop-preserved
loop-preserved c = tables_more c.loop.invariant (omega arith) (c.take_table-table.ensures.one _ c.in-Some.is)

pub returns : goal.returns
returns c = stop-end (tables_end c.loop.invariant (omega arith))
