-- The head is stored beside the rows.
use mathlib.Core.Path.{ap, ◌∙◌}
use Rattle.head.specs.declared.Head.{Head}
use Rattle.state.specs.View.{state_of}
use Rattle.state.specs.Cut.{CutTold}
use Rattle.state_cut.specs.Parts.{cut_parts_told}
use Rattle.capi_answers.specs.Answers.{cut_out}
use Rattle.capi.proofs.sheets.sheet_cut_parts.Goals as goal

pub returns : goal.returns
unfolding cut_parts_told
returns c =
    let told = c.cut_parts-cut.ensures in (
      c.cut_told.ensures _ ∙ ap cut_out told,
      ap (λ (h : Head). state_of h c.cut_parts-cut.new.rows) c.put_head.ensures ∙ ap (λ (t : CutTold). t.state) told,
    )
