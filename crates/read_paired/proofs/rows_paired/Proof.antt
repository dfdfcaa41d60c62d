-- A number of bytes that is not two is four. Turned round they make the number: `rows-standing`.
use mathlib.Core.Path.{◌≡◌, refl, ◌∙◌}
use native.Mathlib.Omega.{arith}
use Rattle.format.specs.Parse.{Octets}
use Rattle.read_paired.proofs.Turned.{rows-standing}
use Rattle.read_paired.proofs.rows_paired.Statement.{statement}
use Rattle.read_paired.proofs.rows_paired.Tie as tie

octets : (c : tie.After-shared_slice_known-1) → Octets c.args.bytes.now
octets c = λ k. omega (arith, c.shared_slice_known-1.given k)

two : (c : tie.Then-k-eq2) → c.args.k ≡ 2
two c = c.if-k-eq2.true

four : (c : tie.Else-k-eq2) → c.args.k ≡ 4
four c = omega (arith, c.requires.0, c.if-k-eq2.false)

pass-rows-requires : tie.Need-pass_rows-requires
pass-rows-requires c κs =
    let pre = c.requires in
    let end : _ = rw (two c) at pre.1 in
    ((omega arith, omega arith, refl), omega (arith, end), pre.2)

returns : tie.Need-returns-then-k-eq2
returns c = rw (two c.before) (c.pass_rows.ensures ∙ rows-standing _ (octets c.before.before) 2 _ _ (omega arith))

pass-rows-requires-2 : tie.Need-pass_rows-requires-2
pass-rows-requires-2 c κs =
    let pre = c.requires in
    let end : _ = rw (four c) at pre.1 in
    ((omega arith, omega arith, refl), omega (arith, end), pre.2)

returns-2 : tie.Need-returns
returns-2 c = rw (four c.before) (c.pass_rows-2.ensures ∙ rows-standing _ (octets c.before.before) 4 _ _ (omega arith))

pub rows_paired_spec : {M : Type 1} → statement M
rows_paired_spec = tie.close (tie.spec pass-rows-requires returns pass-rows-requires-2 returns-2)
