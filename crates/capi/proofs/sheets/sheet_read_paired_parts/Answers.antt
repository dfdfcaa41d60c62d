-- The head is stored beside the rows.
use mathlib.Core.Path.{ap, ◌∙◌}
use Rattle.head.specs.declared.Head.{Head}
use Rattle.state.specs.View.{state_of}
use Rattle.state.specs.Answers.{ReadTold}
use Rattle.state_read.specs.Parts.{read_parts_told}
use Rattle.capi_answers.specs.Answers.{read_out}
use Rattle.capi.proofs.Heads.{read-state}
use Rattle.capi.proofs.sheets.sheet_read_paired_parts.Goals as goal

pub returns : goal.returns
returns c =
    let told = c.read_paired_parts-read.ensures in
    let rows = c.read_paired_parts-read.new.rows in
    let t = read_parts_told c.read_paired_parts-read.result rows in
    let outcome = c.outcome_of.ensures rows in
    let head = c.put_head.ensures ∙ c.head_read.ensures in (
      c.read_told.ensures t.state ∙ (λ i. read_out (record { number = outcome.0 i; place = outcome.1 i; state = t.state })) ∙ ap read_out told,
      ap (λ (h : Head). state_of h rows) head ∙ read-state _ _ ∙ ap (λ (t : ReadTold). t.state) told,
    )
