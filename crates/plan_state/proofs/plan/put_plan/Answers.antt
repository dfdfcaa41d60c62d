-- The five parts.
use Rattle.head.proofs.Held.{HeadShaped, shape, held-n, held-size}
use Rattle.text_lines.specs.Text.{ascii}
use Rattle.plan_state.proofs.Laws.{plan-put, plan-le}
use Rattle.plan_state.proofs.plan.put_plan.Goals.{Start}
use Rattle.plan_state.proofs.plan.put_plan.Goals as goal

-- The shape of the head, by its type.
shaped : (c : Start) → HeadShaped c.args.head
shaped c = search shape

pub put_begin-begun-requires : goal.put_begin-begun-requires
put_begin-begun-requires c = held-n _ _ c.requires

pub put_survey-stocked-requires : goal.put_survey-stocked-requires
put_survey-stocked-requires c = (held-n _ _ c.requires, held-size _ _ (search (shaped, shape)) c.requires)

pub returns : goal.returns
unfolding ascii
returns c =
    let told = c.survey_parts-survey.ensures in
    let ruled = c.put_rulings-ruled.ensures in
    let stocked = c.put_survey-stocked.ensures in (
      plan-put _ _ _ told c.put_begin-begun.ensures ruled.0 c.put_conditions-tied.ensures stocked.0 c.put_text.ensures,
      plan-le _ _ _ told (search (shaped, shape)) c.requires ruled.1 stocked.1,
    )
