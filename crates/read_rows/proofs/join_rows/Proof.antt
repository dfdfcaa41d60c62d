-- A number of bytes that is not two is four.
use mathlib.Core.Path.{◌≡◌, refl}
use native.Mathlib.Omega.{arith}
use Rattle.read_rows.proofs.join_rows.Statement.{statement}
use Rattle.read_rows.proofs.join_rows.Tie as tie

two : (c : tie.Then-k-eq2) → c.args.k ≡ 2
two c = c.if-k-eq2.true

four : (c : tie.Else-k-eq2) → c.args.k ≡ 4
four c = omega (arith, c.requires.1, c.if-k-eq2.false)

store-rows-requires : tie.Need-store_rows-requires
store-rows-requires c κs =
    let pre = c.requires in
    let end : _ = rw (two c.before) at pre.0 in
    (omega (arith, end), (omega arith, omega arith, refl), pre.2, pre.3, pre.4, pre.5)

returns : tie.Need-returns-then-k-eq2
returns c = rw (two c.before.before) c.store_rows.ensures

store-rows-requires-2 : tie.Need-store_rows-requires-2
store-rows-requires-2 c κs =
    let pre = c.requires in
    let end : _ = rw (four c.before) at pre.0 in
    (omega (arith, end), (omega arith, omega arith, refl), pre.2, pre.3, pre.4, pre.5)

returns-2 : tie.Need-returns
returns-2 c = rw (four c.before.before) c.store_rows-2.ensures

pub join_rows_spec : {M : Type 1} → statement M
join_rows_spec = tie.close (tie.spec store-rows-requires returns store-rows-requires-2 returns-2)
