use Rattle.std.proofs.Common.{rules, arith}
use Rattle.std.proofs.lemmas.Result.{err_from_is_err_and}
use Rattle.read_field.proofs.Fields.{read-got, read-bad}
use Rattle.read_body.proofs.SizesLoop.{size_fits, sizes-none, sizes-more, sizes-end, sizes-refused}
use Rattle.read_body.proofs.sizes.read_sizes.Goals as goal

pub loop-i-init : goal.loop-i-init
loop-i-init c = search (sizes-none, rules)

pub returns-in_err-size : goal.returns-in_err-size
returns-in_err-size c =
    let p = err_from_is_err_and c.from_residual.result c.from_residual.ensures.1 in
    rw (p.1, p.2) (sizes-refused c.loop-i.invariant (omega arith) (read-bad c.byte_field.ensures c.in_err-size.was))

pub overflow_cast-sizes : goal.overflow_cast-sizes
overflow_cast-sizes c = size_fits _ _ (omega arith) (read-got c.byte_field.ensures c.in_ok-size.was)

pub loop-i-preserved : goal.loop-i-preserved
loop-i-preserved c =
    sizes-more c.loop-i.invariant (omega arith) (omega arith) (omega arith) (read-got c.byte_field.ensures c.in_ok-size.was)

pub returns : goal.returns
returns c = search (sizes-end, rules)
