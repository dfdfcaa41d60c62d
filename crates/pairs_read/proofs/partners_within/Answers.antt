use Rattle.std.proofs.Common.{◌≡◌, rules}
use mathlib.Core.Path.{sym, ◌∙◌}
use Rattle.words.specs.Word.{width}
use Rattle.pairs.specs.Pairs.{partners_at}
use Rattle.pairs.proofs.Runs.{passed_none, passed-all, passed-not, passed-more, partners-count, lowest-in}
use Rattle.pairs_read.proofs.partners_within.Goals as goal

pub loop-a-init : goal.loop-a-init
loop-a-init c =
    let e : c.into_iter-a-iterator.result.left ≡ c.args.di = search rules in
    rw e (passed_none c.ranges.di.fits)

pub row-requires : goal.row-requires
row-requires c =
    let t = c.in-Some.ensures.steps in
    let p = c.requires in
    (p.0, p.1, p.2, (lowest-in width _ _ c.loop-a.invariant.rest_fits t.0 t.1).0)

pub returns-then-not-between : goal.returns-then-not-between
unfolding partners_at
returns-then-not-between c =
    let t = c.in-Some.ensures.steps in
    sym (passed-not c.loop-a.invariant t.0 t.1 (partners-count width _ _ c.row.ensures c.both.ensures c.count-partners.ensures)
    (sym c.between.ensures ∙ c.if-not-between.true))

pub loop-a-preserved : goal.loop-a-preserved
unfolding partners_at
loop-a-preserved c =
    let t = c.in-Some.ensures.steps in
    passed-more c.loop-a.invariant t.0 t.1 (partners-count width _ _ c.row.ensures c.both.ensures c.count-partners.ensures)
    (sym c.between.ensures ∙ c.if-not-between.false) t.2

pub returns : goal.returns
returns c = sym (passed-all c.loop-a.invariant c.in-None.ensures.steps.0)
