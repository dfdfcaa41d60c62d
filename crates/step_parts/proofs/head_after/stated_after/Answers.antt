use Rattle.std.proofs.Common.{◌≡◌, ◌^◌, rules, arith}
use Rattle.bounded.specs.Array.{Array}
use Rattle.words.specs.Word.{width}
use Rattle.head.proofs.Held.{shape}
use Rattle.step_parts.proofs.Thirds.{all_left, third-found, taken}
use Rattle.step_parts.proofs.StepArrays.{ends-linked, third-linked, all-linked}
use Rattle.step_parts.proofs.head_after.stated_after.Goals as goal

pub loop-k-init : goal.loop-k-init
loop-k-init c =
    let p = c.requires in
    let a : Array 16 (2 ^ width) c.args.stated = search shape in
    let e : c.into_iter-k-iterator.result.left ≡ c.args.thirds = search rules in
    rw e (all_left width c.ranges.thirds.fits, ends-linked width p.2 p.3 p.4 p.0 p.1 a c.either.ensures c.without.ensures)

-- The variable taken is a third one.
pub offset_bounds-stated-k : goal.offset_bounds-stated-k
offset_bounds-stated-k c = let s = c.in-Some.ensures.steps in let l = (third-found width 16 c.requires.5 c.loop-k.invariant.0 s.0 s.1).0 in omega arith

pub bounds-stated-k : goal.bounds-stated-k
bounds-stated-k c = let s = c.in-Some.ensures.steps in let l = (third-found width 16 c.requires.5 c.loop-k.invariant.0 s.0 s.1).0 in omega arith

pub offset_bounds-after-k : goal.offset_bounds-after-k
offset_bounds-after-k c = let s = c.in-Some.ensures.steps in let l = (third-found width 16 c.requires.5 c.loop-k.invariant.0 s.0 s.1).0 in omega arith

pub bounds-after-k : goal.bounds-after-k
bounds-after-k c = let s = c.in-Some.ensures.steps in let l = (third-found width 16 c.requires.5 c.loop-k.invariant.0 s.0 s.1).0 in omega arith

pub loop-k-preserved : goal.loop-k-preserved
loop-k-preserved c =
    let p = c.requires in
    let s = c.in-Some.ensures.steps in
    let t = taken width c.loop-k.invariant.0 s.0 s.1 s.2 in
    let l = (third-found width 16 p.5 c.loop-k.invariant.0 s.0 s.1).0 in (
      t.still,
      third-linked width p.2 p.3 p.4 c.loop-k.invariant.1 t l
          c.single.ensures c.single-in-loop-k.ensures c.either-in-loop-k.ensures c.without-in-loop-k.ensures,
    )

pub returns : goal.returns
returns c = all-linked width c.in-None.ensures.steps.0 c.loop-k.invariant.1
