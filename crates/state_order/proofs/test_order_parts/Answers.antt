-- 9 of a state that is not sound, and else what the kernel tells.
use mathlib.Core.Path.{sym, ◌∙◌}
use Rattle.head.proofs.Held.{HeadShaped, shape, held-sound}
use Rattle.answers.specs.Answers.{test_told}
use Rattle.state_order.proofs.Orders.{told-9, told-tested, handed}
use Rattle.state_order.proofs.test_order_parts.Goals as goal

pub returns-then-not-sound_parts : goal.returns-then-not-sound_parts
unfolding test_told
returns-then-not-sound_parts c = told-9 _ _ (sym c.sound_parts.ensures ∙ c.if-not-sound_parts.true)

pub returns : goal.returns
returns c =
    let h : HeadShaped c.args.head = search shape in
    let t = sym c.sound_parts.ensures ∙ c.if-not-sound_parts.false in
    told-tested _ _ (held-sound _ _ h t) t _ (search handed)
