use Rattle.std.proofs.Common.{rules}
use mathlib.Core.Path.{sym, ◌∙◌}
use Rattle.bounded.proofs.Bool.{and-fails, and-holds}
use Rattle.soundness_rows.specs.Fits.{rows_fit}
use Rattle.soundness_rows.proofs.rows_sound.Goals as goal

pub returns-then-not-past_sound : goal.returns-then-not-past_sound
unfolding rows_fit
returns-then-not-past_sound c = sym (and-fails _ _ (sym c.past_sound.ensures ∙ c.if-not-past_sound.true))

pub returns : goal.returns
unfolding rows_fit
returns c =
    c.every.ensures _ (λ i r l m. search rules)
    ∙ sym (and-holds _ _ (sym c.past_sound.ensures ∙ c.if-not-past_sound.false))
