use Rattle.std.proofs.Common.{◌≡◌, true, rules, arith}
use mathlib.Core.Path.{◌∙◌}
use Rattle.words.specs.Word.{width}
use Rattle.step_compose.specs.Compose.{Apart}
use Rattle.step_parts.proofs.Thirds.{all_left, third-found, taken}
use Rattle.step_parts.proofs.StepRows.{none-moved, all_moved, next-moved, all_apart}
use Rattle.step_parts.proofs.rows_after.move_thirds.Goals as goal

pub loop-k-init : goal.loop-k-init
loop-k-init c =
    let e : c.into_iter-k-iterator.result.left ≡ c.args.thirds = search rules in
    rw e (all_left width c.ranges.thirds.fits, none-moved width _)

-- The variable taken is a third one.
pub member-was-requires : goal.member-was-requires
member-was-requires c = let s = c.in-Some.ensures.steps in let l = (third-found width 16 c.requires.5 c.loop-k.invariant.0 s.0 s.1).0 in omega arith

pub offset_bounds-domains-k : goal.offset_bounds-domains-k
offset_bounds-domains-k c = let s = c.in-Some.ensures.steps in let l = (third-found width 16 c.requires.5 c.loop-k.invariant.0 s.0 s.1).0 in omega arith

pub bounds-domains-k : goal.bounds-domains-k
bounds-domains-k c = let s = c.in-Some.ensures.steps in let l = (third-found width 16 c.requires.5 c.loop-k.invariant.0 s.0 s.1).0 in omega arith

pub compose-requires : goal.compose-requires
compose-requires c =
    let p = c.requires in
    let s = c.in-Some.ensures.steps in
    (all_apart _ _ p.0 p.1 p.2 p.3 p.4 (third-found width 16 p.5 c.loop-k.invariant.0 s.0 s.1), c.loop-k.invariant.1.same_length ∙ p.6)

pub clear-requires : goal.clear-requires
clear-requires c =
    let p = c.requires in
    let s = c.in-Some.ensures.steps in
    let a : Apart (record { i = c.args.i; j = c.args.j; k = c.in-Some.k; ti = 0; dj = 0; dk = 0; was = true }) =
    all_apart _ _ p.0 p.1 p.2 p.3 p.4 (third-found width 16 p.5 c.loop-k.invariant.0 s.0 s.1) in
    (a.j_in, a.k_in, a.j_not_k, c.compose.array_long)

pub loop-k-preserved : goal.loop-k-preserved
loop-k-preserved c =
    let p = c.requires in
    let s = c.in-Some.ensures.steps in
    let t = taken width c.loop-k.invariant.0 s.0 s.1 s.2 in (
      t.still,
      next-moved width _ _ _ (all_apart _ _ p.0 p.1 p.2 p.3 p.4 (third-found width 16 p.5 c.loop-k.invariant.0 s.0 s.1)) p.3 p.4 t
          c.member-was.ensures c.loop-k.invariant.1 c.compose.ensures c.clear.ensures,
    )

pub returns : goal.returns
returns c = all_moved width _ c.in-None.ensures.steps.0 c.loop-k.invariant.1
