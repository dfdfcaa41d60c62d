use Rattle.std.proofs.Common.{◌≡◌, rules, arith}
use Rattle.words.specs.Word.{width}
use Rattle.pairs.proofs.Runs.{union-none, union-all, union-step, rest_lt, rest-within, lowest-in}
use Rattle.pairs.proofs.run.union.Goals as goal

pub loop-a-init : goal.loop-a-init
loop-a-init c =
    let e : c.into_iter-a-iterator.result.left ≡ c.args.set = search rules in
    rw e (c.ranges.set.fits, (λ u t. t), union-none width _ _ _)

-- The value taken is one of those to come.
pub overflow_add-at : goal.overflow_add-at
overflow_add-at c = let t = c.in-Some.ensures.steps in let l = (lowest-in width _ _ c.loop-a.invariant.0 t.0 t.1).0 in omega arith

pub offset_bounds-rows-at : goal.offset_bounds-rows-at
offset_bounds-rows-at c = let t = c.in-Some.ensures.steps in let l = (lowest-in width _ _ c.loop-a.invariant.0 t.0 t.1).0 in omega arith

pub bounds-rows-at : goal.bounds-rows-at
bounds-rows-at c = let t = c.in-Some.ensures.steps in let l = (lowest-in width _ _ c.loop-a.invariant.0 t.0 t.1).0 in omega arith

pub loop-a-preserved : goal.loop-a-preserved
loop-a-preserved c =
    let t = c.in-Some.ensures.steps in
    let i = c.loop-a.invariant in
    (rest_lt width i.0 t.0 t.1 t.2, rest-within width i.0 t.0 t.1 t.2 _ i.1, union-step width _ _ _ i.0 t.0 t.1 t.2 i.1 i.2 c.either-all.ensures)

pub returns : goal.returns
returns c = union-all width _ _ _ c.in-None.ensures.steps.0 c.loop-a.invariant.2
