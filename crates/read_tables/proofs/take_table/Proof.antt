-- Cut off, then the pair, then its rows. A pair that passes is below 16, and its sizes at most 32.
use mathlib.Core.Path.{◌≡◌, refl}
use Prim.Native.Nat.{◌+◌}
use native.Mathlib.Omega.{arith}
use borrow.Author.Rules.{rules}
use Rattle.format.specs.Layout.{pair_test}
use Rattle.format.specs.Parse.{got, field}
use Rattle.read_field.specs.Fields.{read_of}
use Rattle.read_field.proofs.Fields.{field-got, field-fine}
use Rattle.read_rows.proofs.Rows.{rows_few}
use Rattle.read_tables.proofs.TablesLoop.{PairIn, pair_in, two-there, two-pass, no-pair, no_rows, table-in, taken-one, taken_none}
use Rattle.read_tables.proofs.take_table.Statement.{statement}
use Rattle.read_tables.proofs.take_table.Tie as tie

returns : tie.Need-returns-then-bytes-first_row
returns c =
    taken_none (no-pair c.requires.4 (omega arith) _ _ _ (λ p x q. omega (arith, c.if-bytes-first_row.true, two-there (field-got q))))

returns-2 : tie.Need-returns-then-not-pair_passes
returns-2 c =
    let read = c in
    taken_none (no-pair read.requires.4 (omega arith) _ _ _
    (λ p x q. c.pair_passes.ensures.1 (c.if-not-pair_passes.true) (two-pass (field-got q) read.number-pair.ensures)))

-- The pair is read; what is known of it.
pair_read : (c : tie.Else-not-pair_passes)
    → (let start = c in
    field 2 (pair_test start.args.n start.args.previous) start.args.bytes.now start.args.at
    ≡ got c.number-pair.result (start.args.at + 2))
unfolding read_of
pair_read c =
    let read = c in
    field-fine 2 _ _ _ read.number-pair.ensures refl (omega (arith, read.if-bytes-first_row.false)) (c.pair_passes.ensures.0 (c.if-not-pair_passes.false))

pair-known : (c : tie.Else-not-pair_passes)
    → (let start = c in
    PairIn start.args.bytes.now start.args.n start.args.previous start.args.sizes.now c.number-pair.result (start.args.at + 2))
pair-known c = pair_in _ c.requires.4 (pair_read c)

sub-i : tie.Need-overflow_sub-i
sub-i c = omega (arith, pair-known c)

sub-j : tie.Need-overflow_sub-j
sub-j c = omega (arith, pair-known c)

mark-requires : tie.Need-mark-requires
mark-requires c κs = omega (arith, pair-known c.before)

mark-requires-2 : tie.Need-mark-requires-2
mark-requires-2 c κs = omega (arith, pair-known c.before.before.before)

element-copy-out-count : tie.Need-bounds-sizes-i
element-copy-out-count c = omega (arith, pair-known c.before.before.before.before.before)

cast-count : tie.Need-overflow_cast-count
cast-count c = omega (arith, pair-known c.before.before.before.before.before.before)

element-copy-out-size : tie.Need-bounds-sizes-j
element-copy-out-size c = omega (arith, pair-known c.before.before.before.before.before.before)

cast-size : tie.Need-overflow_cast-size
cast-size c = omega (arith, pair-known c.before.before.before.before.before.before.before)

take-rows-requires : tie.Need-take_rows-requires
take-rows-requires c κs = omega (arith, pair-known c.before.before.before.before.before.before.before.before)

returns-3 : tie.Need-returns-then-not-take_rows
returns-3 c =
    let pair = c in
    taken_none (no_rows pair.requires.4 (omega arith) _ _ _ (pair_read c.before.before.before.before.before.before.before.before.before.before)
    c.take_rows.ensures (c.if-not-take_rows.true))

mul-t16 : tie.Need-overflow_mul-result
mul-t16 c = let p = pair-known c.before.before.before.before.before.before.before.before.before.before in
    omega (arith, rows_few c.requires.1.1 p.first_small)

add-t29 : tie.Need-overflow_add-result
add-t29 c = let p = pair-known c.before.before.before.before.before.before.before.before.before.before in
    omega (arith, rows_few c.requires.1.1 p.first_small, p.ends)

returns-4 : tie.Need-returns
returns-4 c =
    let marked = c in
    let pair = marked in
    taken-one (table-in pair.requires.4 (omega arith) _ _ _ (pair_read c.before.before.before.before.before.before.before.before.before.before)
    c.take_rows.ensures (c.if-not-take_rows.false) marked.mark.ensures marked.mark-2.ensures)

pub take_table_spec : {M : Type 1} → statement M
take_table_spec =
    tie.close
    (tie.spec
    (λ c. search rules)
    returns
    (λ c κs. search rules)
    (λ c. search rules)
    (λ c κs. search rules)
    returns-2
    sub-i
    sub-j
    mark-requires
    mark-requires-2
    element-copy-out-count
    cast-count
    element-copy-out-size
    cast-size
    take-rows-requires
    returns-3
    mul-t16
    add-t29
    returns-4)
