use Rattle.std.proofs.Common.{rules}
use mathlib.Core.Path.{sym, ◌∙◌}
use borrow.Author.Tests.{not-true, not-false}
use Rattle.state.proofs.WorkedOut.{unsound-told, reduction-told}
use Rattle.state.proofs.reduction.reduce_parts.Goals as goal

-- Soundness comes first.
pub returns-then-not-sound_parts : goal.returns-then-not-sound_parts
returns-then-not-sound_parts c = unsound-told _ _ (sym c.sound_parts.ensures ∙ c.if-not-sound_parts.true)

pub returns : goal.returns
returns c = reduction-told _ _ (sym c.sound_parts.ensures ∙ c.if-not-sound_parts.false) c.reduce_sound.ensures
