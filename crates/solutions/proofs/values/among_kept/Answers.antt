use mathlib.Core.Path.{sym, ◌∙◌}
use borrow.Author.Tests.{eq-eqb, ne_eqb}
use Rattle.bounded.proofs.Bool.{implies_true, implies-false}
use Rattle.words.specs.Word.{width}
use Rattle.solutions.specs.Choices.{among_kept}
use Rattle.solutions.proofs.Choices.{seen_all, seen_next, seen-not, seen_more}
use Rattle.solutions.proofs.values.among_kept.Goals as goal

pub returns-then-leader-ne0 : goal.returns-then-leader-ne0
unfolding among_kept
returns-then-leader-ne0 c = sym (implies-false _ _ (ne_eqb _ _ c.if-leader-ne0.true))

-- The next variable is a higher one that has a value.
pub bounds-values-j : goal.bounds-values-j
bounds-values-j c = let t = c.in-Some.ensures.steps in (c.requires.1 _ (seen_next width _ _ c.loop-j.invariant t.0 t.1).1).2

pub row_allows-requires : goal.row_allows-requires
row_allows-requires c = let t = c.in-Some.ensures.steps in let n = c.requires.1 _ (seen_next width _ _ c.loop-j.invariant t.0 t.1).1 in (n.0, n.1)

pub returns-then-not-row_allows : goal.returns-then-not-row_allows
unfolding among_kept
returns-then-not-row_allows c =
    let t = c.in-Some.ensures.steps in
    sym (implies_true _ _ (eq-eqb _ _ c.if-leader-ne0.false) ∙ seen-not width _ _ c.loop-j.invariant t.0 t.1 (sym c.row_allows.ensures ∙ c.if-not-row_allows.true))

pub loop-j-preserved : goal.loop-j-preserved
loop-j-preserved c =
    let t = c.in-Some.ensures.steps in
    seen_more width _ _ c.loop-j.invariant t.0 t.1 (sym c.row_allows.ensures ∙ c.if-not-row_allows.false) t.2

pub returns : goal.returns
unfolding among_kept
returns c = sym (implies_true _ _ (eq-eqb _ _ c.if-leader-ne0.false) ∙ seen_all width _ _ _ c.loop-j.invariant c.in-None.ensures.steps.0)
