-- All were taken, or the one that was not is walked.
use Rattle.std.proofs.Common.{rules}
use Rattle.read_tables.proofs.TablesLoop.{tables-walked}
use Rattle.read_tables.proofs.read_tables.Goals as goal

pub walk_table-requires : goal.walk_table-requires
walk_table-requires c =
    let here = c.take_tables.ensures.stopped _ c.in-Err.is in
    search (here, rules)

pub returns-in-Ok : goal.returns-in-Ok
returns-in-Ok c = c.take_tables.ensures.ended _ c.in-Ok.is

pub returns-in-Err : goal.returns-in-Err
returns-in-Err c = tables-walked (c.take_tables.ensures.stopped _ c.in-Err.is) c.walk_table.ensures
