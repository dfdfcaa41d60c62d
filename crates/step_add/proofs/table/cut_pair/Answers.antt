use Rattle.std.proofs.Common.{rules}
use Rattle.step_sides.proofs.Cut.{partners-stay}
use Rattle.step_add.proofs.Cut.{free-in, free-told, led-told, cut-told}
use Rattle.step_add.proofs.table.cut_pair.Goals as goal

-- Both are free: a value has a row of the table,
pub cut_with-requires : goal.cut_with-requires
cut_with-requires c =
    let p = c.requires in
    let e = c.both_free.ensures c.if-both_free.true in (
      p.3,
      p.1.leader_in,
      p.5,
      λ now f n a st l d.
          let i = free-in 32 _ _ c.args.first c.args.second e.0 p.4 a d in
          search rules,
    )

-- which is what it tells.
pub returns-then-both_free : goal.returns-then-both_free
returns-then-both_free c =
    let e = c.both_free.ensures c.if-both_free.true in
    cut-told 32 _ _ c.args.first c.args.second c.args.was
    (c.cut_with.ensures _ (λ now f n a r st l d m. free-told 32 _ _ c.args.first c.args.second a e.0 e.1 (search rules)))

pub cut_with-requires-2 : goal.cut_with-requires-2
cut_with-requires-2 c =
    let p = c.requires in
    (p.3, p.1.leader_in, p.5, λ now f n a st l d. let i = partners-stay 32 p.2 st _ p.4 a d in search rules)

pub returns : goal.returns
returns c =
    cut-told 32 _ _ c.args.first c.args.second c.args.was
    (c.cut_with-2.ensures _ (λ now f n a r st l d m. led-told 32 _ _ c.args.first c.args.second a c.requires.2 st (search rules)))
