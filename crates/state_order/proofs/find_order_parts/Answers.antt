-- 9 of a state that is not sound, and else what the kernel tells and leaves.
use mathlib.Core.Path.{sym, ◌∙◌}
use Rattle.head.proofs.Held.{HeadShaped, shape, held-sound}
use Rattle.answers.specs.Answers.{outcome_number}
use Rattle.state_order.proofs.Orders.{find-9, find-told, found-same, handed}
use Rattle.state_order.proofs.find_order_parts.Goals as goal

pub returns-then-not-sound_parts : goal.returns-then-not-sound_parts
unfolding outcome_number
returns-then-not-sound_parts c = find-9 _ _ (sym c.sound_parts.ensures ∙ c.if-not-sound_parts.true)

pub returns : goal.returns
returns c =
    let h : HeadShaped c.args.head = search shape in
    let t = sym c.sound_parts.ensures ∙ c.if-not-sound_parts.false in
    let e = c.find_order.ensures in
    find-told _ _ t e.1 (held-sound _ _ h t) _ (found-same _ _ _ _ (search handed) e.0)
