-- What is stored and told is what page nine makes of the head and rows; where it is refused nothing is stored.
use mathlib.Core.Path.{ap, ◌∙◌}
use Rattle.answers.specs.Answers.{verdict_told}
use Rattle.head.specs.Held.{HeadShaped}
use Rattle.head.proofs.Held.{shape}
use Rattle.meter.specs.Fitted.{MeterTold}
use Rattle.meter_parts.specs.Parts.{fit_told}
use Rattle.meter_parts.proofs.Fits.{fitted-same}
use Rattle.capi_answers.specs.Answers.{verdict_out}
use Rattle.capi_lent.specs.Lent.{Made}
use Rattle.capi_lent.proofs.Laws.{made-state, left-state}
use Rattle.capi.proofs.fit.meter_fit_parts.Goals as goal

pub returns-in-Ok : goal.returns-in-Ok
unfolding fit_told Made
returns-in-Ok c =
    let told = rw c.head_of.ensures at c.in-Ok.ensures in
    let shaped : HeadShaped c.head_of.result = search shape in (
      c.verdict_told.ensures ∙ ap (λ (t : MeterTold). verdict_out t.verdict) told,
      made-state (ap (λ (t : MeterTold). t.state) told) c.put_made.ensures.1 (fitted-same _ (rw c.head_of.ensures at shaped)),
    )

pub returns-in-Err : goal.returns-in-Err
unfolding fit_told verdict_told Made
returns-in-Err c =
    let told = rw c.head_of.ensures at c.in-Err.ensures in
    let left = c.put_made-in-Err.ensures in (
      c.verdict_told-in-Err.ensures ∙ ap (λ (t : MeterTold). verdict_out t.verdict) told,
      left-state (ap (λ (t : MeterTold). t.state) told) (left.1, left.2, left.3),
    )
