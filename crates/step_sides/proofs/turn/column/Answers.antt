use Rattle.std.proofs.Common.{rules}
use mathlib.Core.Path.{sym, ◌∙◌}
use Rattle.bounded.proofs.Bool.{and-holds}
use Rattle.network.specs.Added.{table_allows}
use Rattle.words.specs.Word.{width}
use Rattle.step_sides.specs.Turned.{column_at}
use Rattle.step_sides.proofs.Turning.{column-none}
use Rattle.step_sides.proofs.turn.column.Goals as goal

pub returns-then-not-member : goal.returns-then-not-member
returns-then-not-member c = column-none width _ _ _ (sym c.member.ensures ∙ c.if-not-member.true)

pub returns : goal.returns
unfolding column_at table_allows
returns c = c.gather.ensures _ (λ i r l m. rw (and-holds _ _ (sym c.member.ensures ∙ c.if-not-member.false)) (search rules))
