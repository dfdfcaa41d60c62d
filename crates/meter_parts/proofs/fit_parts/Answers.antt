-- Soundness is asked before the sizes: 25 is answered of a sound state alone.
use mathlib.Core.Path.{sym, ◌∙◌}
use native.Mathlib.Omega.{arith}
use Rattle.meter.specs.Fitted.{turned_away}
use Rattle.meter.proofs.Fitted.{refuses-unsound, refuses-not-flat, fitted-away}
use Rattle.meter_parts.specs.Parts.{fit_told}
use Rattle.meter_parts.proofs.fit_parts.Goals as goal

pub fit_flat-requires : goal.fit_flat-requires
fit_flat-requires c = (c.whole.ensures, sym c.is_flat_meter.ensures ∙ c.if-is_flat_meter.true)

pub returns-then-sound_parts : goal.returns-then-sound_parts
unfolding fit_told turned_away
returns-then-sound_parts c =
    sym (fitted-away _ 25 (refuses-not-flat _ (sym c.sound_parts.ensures ∙ c.if-sound_parts.true) (sym c.is_flat_meter.ensures ∙ c.if-is_flat_meter.false)) (omega arith))

pub returns : goal.returns
unfolding fit_told turned_away
returns c = sym (fitted-away _ 9 (refuses-unsound _ (sym c.sound_parts.ensures ∙ c.if-sound_parts.false)) (omega arith))
