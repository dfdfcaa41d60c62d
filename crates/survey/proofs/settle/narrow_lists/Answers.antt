use Rattle.std.proofs.Common.{rules}
use mathlib.Core.Path.{◌∙◌}
use Rattle.survey.specs.Settle.{value_of}
use Rattle.survey.proofs.Settling.{settling-none, settling_next, settling-more, settling-end}
use Rattle.survey.proofs.settle.narrow_lists.Goals as goal

pub loop-i-init : goal.loop-i-init
loop-i-init c = settling-none (search rules) (search rules)

-- The next one has a value.
pub offset_bounds-domains-i : goal.offset_bounds-domains-i
offset_bounds-domains-i c =
    let t = c.in-Some.ensures.steps in
    let l = (c.requires.0.single_in _ (settling_next c.loop-i.invariant t.0 t.1)).0 in
    search rules

pub bounds-domains-i : goal.bounds-domains-i
bounds-domains-i c = let t = c.in-Some.ensures.steps in (c.requires.0.single_in _ (settling_next c.loop-i.invariant t.0 t.1)).0

pub offset_bounds-stated-i : goal.offset_bounds-stated-i
offset_bounds-stated-i c =
    let t = c.in-Some.ensures.steps in
    let l = (c.requires.0.single_in _ (settling_next c.loop-i.invariant t.0 t.1)).0 in
    search rules

pub bounds-stated-i : goal.bounds-stated-i
bounds-stated-i c = let t = c.in-Some.ensures.steps in (c.requires.0.single_in _ (settling_next c.loop-i.invariant t.0 t.1)).0

pub narrow_either-requires : goal.narrow_either-requires
unfolding value_of
narrow_either-requires c =
    let t = c.in-Some.ensures.steps in
    let n = c.requires.0.single_in _ (settling_next c.loop-i.invariant t.0 t.1) in
    (n.0, rw c.lowest-v.ensures n.1, c.requires.0.other_in c.in-Some.i, c.loop-i.invariant.so_far.whole ∙ c.requires.1)

pub loop-i-preserved : goal.loop-i-preserved
loop-i-preserved c =
    let t = c.in-Some.ensures.steps in
    settling-more c.loop-i.invariant t.0 t.1 c.lowest-v.ensures c.narrow_either.ensures t.2

pub returns : goal.returns
returns c = settling-end c.loop-i.invariant c.in-None.ensures.steps.0
