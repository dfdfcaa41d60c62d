use Rattle.std.proofs.Common.{◌≡◌, rules}
use Rattle.words.specs.Word.{width, word}
use Rattle.step_sides.specs.Turned.{column_at, turned_of}
use Rattle.step_sides.proofs.Turning.{column-of}
use Rattle.step_sides.proofs.turn.turned.Goals as goal

pub returns : goal.returns
unfolding turned_of
returns c =
    c.table.ensures _ (λ d x l m.
    let h : x ≡ word width (column_at c.args.domain c.whole-rows.result d) = search rules in
    column-of width _ _ _ c.whole-rows.ensures h)
