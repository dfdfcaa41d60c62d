use Rattle.std.proofs.Common.{sym, ◌∙◌}
use Rattle.text_lines.specs.Text.{ascii}
use Rattle.plan_asked.proofs.Laws.{same-told, dashed-told, word-page, word-lead, word-help, word-dashed, word-file}
use Rattle.plan_asked.proofs.with_word.Goals as goal

pub returns-then-eq : goal.returns-then-eq
unfolding ascii
returns-then-eq c = c.with_page.ensures ∙ sym (word-page _ _ _ (same-told _ c.as_slice.ensures c.eq.ensures c.if-eq.true))

pub returns-then-eq-2 : goal.returns-then-eq-2
unfolding ascii
returns-then-eq-2 c =
    c.with_lead.ensures
    ∙ sym (word-lead _ _ _ (same-told _ c.as_slice.ensures c.eq.ensures c.if-eq.false)
    (same-told _ c.as_slice-2.ensures c.eq-2.ensures c.if-eq-2.true))

pub returns-then-eq-3 : goal.returns-then-eq-3
unfolding ascii
returns-then-eq-3 c =
    c.help.ensures
    ∙ sym (word-help _ _ _ (same-told _ c.as_slice.ensures c.eq.ensures c.if-eq.false)
    (same-told _ c.as_slice-2.ensures c.eq-2.ensures c.if-eq-2.false)
    (same-told _ c.as_slice-3.ensures c.eq-3.ensures c.if-eq-3.true))

pub returns-then-starts_with : goal.returns-then-starts_with
unfolding ascii
returns-then-starts_with c =
    c.fault.ensures
    ∙ sym (word-dashed _ _ _ (same-told _ c.as_slice.ensures c.eq.ensures c.if-eq.false)
    (same-told _ c.as_slice-2.ensures c.eq-2.ensures c.if-eq-2.false)
    (same-told _ c.as_slice-3.ensures c.eq-3.ensures c.if-eq-3.false)
    (dashed-told c.args.word.now c.starts_with.ensures.value c.if-starts_with.true))

pub returns : goal.returns
unfolding ascii
returns c =
    c.with_file.ensures
    ∙ sym (word-file _ _ _ (same-told _ c.as_slice.ensures c.eq.ensures c.if-eq.false)
    (same-told _ c.as_slice-2.ensures c.eq-2.ensures c.if-eq-2.false)
    (same-told _ c.as_slice-3.ensures c.eq-3.ensures c.if-eq-3.false)
    (dashed-told c.args.word.now c.starts_with.ensures.value c.if-starts_with.false))
