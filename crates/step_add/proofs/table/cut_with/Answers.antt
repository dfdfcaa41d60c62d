use Rattle.std.proofs.Common.{rules, arith, ◌≡◌}
use mathlib.Core.Path.{sym, ◌∙◌}
use Rattle.pairs.proofs.Frames.{stored-none}
use Rattle.step_add.proofs.Cut.{now-more, more-outside, more-unstated, more-stated}
use Rattle.step_add.proofs.table.cut_with.Goals as goal
use Rattle.step_add.proofs.table.cut_with.Goals.{then-member+then-was, then-member+else-was, else-member}

pub loop-a-init : goal.loop-a-init
loop-a-init g c = (omega arith, stored-none 32, λ told tells. stored-none 32)

pub reach-row-requires : goal.reach-row-requires
reach-row-requires g c = c.requires.3 _ _ _ _ c.loop-a.invariant.1 c.loop-a-test.true (sym c.member.ensures ∙ c.if-member.true)

pub put_row-requires : goal.put_row-requires
put_row-requires g c = let st = c.loop-a.invariant.1 in (c.requires.0, c.requires.1, c.loop-a-test.true, search rules)

pub loop-a-preserved : goal.loop-a-preserved
loop-a-preserved g c =
    let I = c.loop-a.invariant in
    let s = c.args.first in (
      omega arith,
      now-more 32 I.1 c.put_row.ensures,
      λ told tells.
          elim c.if-member.branch [
            | then-member+then-was w ↦ more-stated 32 s c.args.q c.args.was told (I.2 told tells) c.put_row.ensures (search rules)
                (tells _ _ _ _ _ I.1 (search rules) (search rules) w.reach-row.ensures) (search rules) w.stored_row.ensures (search rules)
            | then-member+else-was w ↦ more-unstated 32 s c.args.q c.args.was told (I.2 told tells) c.put_row.ensures (search rules)
                (tells _ _ _ _ _ I.1 (search rules) (search rules) w.reach-row.ensures) (search rules) (search rules)
            | else-member w ↦ more-outside 32 s c.args.q c.args.was told (I.2 told tells) c.put_row.ensures (search rules) (search rules)
          ],
    )

pub returns : goal.returns
returns g c = λ told tells. let e : c.loop-a.a ≡ 32 = omega arith in rw e at (c.loop-a.invariant.2 told tells)
