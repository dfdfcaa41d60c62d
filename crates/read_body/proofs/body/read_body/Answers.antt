-- Field after field: each answer is refused with its own cause and place, or leaves less to parse.
use Rattle.std.proofs.lemmas.Result.{err_from_is_err_and}
use Rattle.read_field.proofs.Fields.{read-got, read-bad}
use Rattle.read_body.proofs.Reading.{counted, listed, constrained, tabled-all, no-count, no-sizes, no-constraints, no-tables, left_over, body-read, pairs-fit}
use Rattle.read_body.proofs.body.read_body.Goals as goal

pub returns-in_err-n : goal.returns-in_err-n
returns-in_err-n c =
    let p = err_from_is_err_and c.from_residual.result c.from_residual.ensures.1 in
    rw (p.1, p.2) (no-count _ (read-bad c.byte_field.ensures c.in_err-n.was))

pub read_sizes-requires : goal.read_sizes-requires
read_sizes-requires c =
    let n = counted _ (read-got c.byte_field.ensures c.in_ok-n.was) in
    (n.few, c.requires.1, c.requires.2)

pub returns-in_err-after : goal.returns-in_err-after
returns-in_err-after c =
    let p = err_from_is_err_and c.from_residual-in_err-after.result c.from_residual-in_err-after.ensures.1 in
    let n = counted _ (read-got c.byte_field.ensures c.in_ok-n.was) in
    rw (p.1, p.2) (no-sizes _ n c.read_sizes.ensures c.in_err-after.was)

pub overflow_sub-most_tables : goal.overflow_sub-most_tables
overflow_sub-most_tables c = (counted _ (read-got c.byte_field.ensures c.in_ok-n.was)).some

pub overflow_mul-most_tables : goal.overflow_mul-most_tables
overflow_mul-most_tables c = pairs-fit _ (counted _ (read-got c.byte_field.ensures c.in_ok-n.was)).few

pub returns-in_err-p : goal.returns-in_err-p
returns-in_err-p c =
    let p = err_from_is_err_and c.from_residual-in_err-p.result c.from_residual-in_err-p.ensures.1 in
    let n = counted _ (read-got c.byte_field.ensures c.in_ok-n.was) in
    let sizes = listed _ n c.read_sizes.ensures c.in_ok-after.was in
    rw (p.1, p.2) (no-constraints _ sizes (read-bad c.byte_field-2.ensures c.in_err-p.was))

pub read_tables-requires : goal.read_tables-requires
read_tables-requires c =
    let n = counted _ (read-got c.byte_field.ensures c.in_ok-n.was) in
    let sizes = listed _ n c.read_sizes.ensures c.in_ok-after.was in
    let constraints = constrained _ sizes (read-got c.byte_field-2.ensures c.in_ok-p.was) in
    (constraints.inside, c.requires.0, n.few, c.requires.3, c.requires.4, sizes.sized)

pub returns-in_err-tables : goal.returns-in_err-tables
returns-in_err-tables c =
    let p = err_from_is_err_and c.from_residual-in_err-tables.result c.from_residual-in_err-tables.ensures.1 in
    let n = counted _ (read-got c.byte_field.ensures c.in_ok-n.was) in
    let sizes = listed _ n c.read_sizes.ensures c.in_ok-after.was in
    let constraints = constrained _ sizes (read-got c.byte_field-2.ensures c.in_ok-p.was) in
    rw (p.1, p.2) (no-tables _ constraints c.read_tables.ensures c.in_err-tables.was)

pub returns-then-end-bytes : goal.returns-then-end-bytes
returns-then-end-bytes c =
    let n = counted _ (read-got c.byte_field.ensures c.in_ok-n.was) in
    let sizes = listed _ n c.read_sizes.ensures c.in_ok-after.was in
    let constraints = constrained _ sizes (read-got c.byte_field-2.ensures c.in_ok-p.was) in
    left_over _ (tabled-all _ constraints c.read_tables.ensures c.in_ok-tables.was) c.if-end-bytes.true

pub returns : goal.returns
returns c =
    let n = counted _ (read-got c.byte_field.ensures c.in_ok-n.was) in
    let sizes = listed _ n c.read_sizes.ensures c.in_ok-after.was in
    let constraints = constrained _ sizes (read-got c.byte_field-2.ensures c.in_ok-p.was) in
    body-read _ (tabled-all _ constraints c.read_tables.ensures c.in_ok-tables.was) c.if-end-bytes.false
