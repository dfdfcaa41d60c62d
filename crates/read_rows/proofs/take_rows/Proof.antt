-- Cut off, then by the union, and where rows must be filled by that too: one law for each.
use native.Mathlib.Omega.{arith}
use borrow.Author.Rules.{rules}
use Rattle.read_rows.proofs.Rows.{rows_few, rows_fit, rows_cut, union-decides, both-decide}
use Rattle.read_rows.proofs.take_rows.Statement.{statement}
use Rattle.read_rows.proofs.take_rows.Tie as tie

mul-end : tie.Need-overflow_mul-end
mul-end c = omega (arith, rows_few c.requires.1.1 c.requires.4)

add-end : tie.Need-overflow_add-end
add-end c = omega (arith, rows_few c.requires.1.1 c.requires.4)

returns : tie.Need-returns-then-bytes-end
returns c = rows_cut c.if-bytes-end.true

returns-2 : tie.Need-returns-then-filled
returns-2 c =
    let join = c in
    let start = join in
    rw join.if-filled.true
    (both-decide join.join_rows-joined.ensures (λ a. omega (arith, join.shared_slice_known-1.given a)) (rows_fit start.requires.1.1) (omega arith) _
    c.within.ensures)

returns-3 : tie.Need-returns
returns-3 c =
    let join = c in
    let start = join in
    rw join.if-filled.false
    (union-decides join.join_rows-joined-2.ensures (λ a. omega (arith, join.shared_slice_known-1.given a)) (rows_fit start.requires.1.1) (omega arith) _
    c.within-2.ensures)

pub take_rows_spec : {M : Type 1} → statement M
take_rows_spec =
    tie.close
    (tie.spec
    mul-end
    add-end
    returns
    (λ c κs. search rules)
    (λ c κs. search rules)
    returns-2
    (λ c κs. search rules)
    (λ c κs. search rules)
    returns-3)
