-- The pair first, then its rows.
use Rattle.std.proofs.Common.{arith}
use Rattle.std.proofs.lemmas.Result.{err_from_is_err_and}
use Rattle.read_field.proofs.Fields.{read-got, read-bad}
use Rattle.read_tables.proofs.TablesLoop.{pair_in, pair-walked, rows_walked}
use Rattle.read_tables.proofs.walk_table.Goals as goal

pub returns-in_err-pair : goal.returns-in_err-pair
returns-in_err-pair c =
    let p = err_from_is_err_and c.from_residual.result c.from_residual.ensures.1 in
    rw (p.1, p.2) (pair-walked c.requires.3 (omega arith) _ _ _ (read-bad c.pair_field.ensures c.in_err-pair.was))

pub overflow_sub-count : goal.overflow_sub-count
overflow_sub-count c = omega (arith, pair_in _ c.requires.3 (read-got c.pair_field.ensures c.in_ok-pair.was))

pub bounds-sizes-pair : goal.bounds-sizes-pair
bounds-sizes-pair c = omega (arith, pair_in _ c.requires.3 (read-got c.pair_field.ensures c.in_ok-pair.was))

pub overflow_sub-size : goal.overflow_sub-size
overflow_sub-size c = omega (arith, pair_in _ c.requires.3 (read-got c.pair_field.ensures c.in_ok-pair.was))

pub bounds-sizes-pair-2 : goal.bounds-sizes-pair-2
bounds-sizes-pair-2 c = omega (arith, pair_in _ c.requires.3 (read-got c.pair_field.ensures c.in_ok-pair.was))

pub walk_rows-requires : goal.walk_rows-requires
walk_rows-requires c = omega (arith, pair_in _ c.requires.3 (read-got c.pair_field.ensures c.in_ok-pair.was))

pub returns : goal.returns
returns c = rows_walked c.requires.3 (omega arith) _ _ _ (read-got c.pair_field.ensures c.in_ok-pair.was) c.walk_rows.ensures
