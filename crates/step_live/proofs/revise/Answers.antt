use Rattle.std.proofs.Common.{ℕ, List, ◌≡◌, ◌^◌, true, rules, arith}
use mathlib.Core.Path.{sym, ap, ◌∙◌}
use lib.Pow.{pow_mono}
use Rattle.bounded.proofs.Bool.{clash}
use Rattle.bounded.specs.Fold.{first}
use Rattle.words.specs.Word.{width, has}
use Rattle.pairs.proofs.Runs.{lowest-in}
use Rattle.step_live.proofs.Revising.{Revising, revising-none, revising-more, revising-end}
use Rattle.step_live.proofs.revise.Goals as goal

-- The variable taken is one of the others.
other : {w : ℕ} {rows domains : List ℕ} {others j changed rest x : ℕ} {after : List ℕ} → Revising w rows domains others j after changed rest
    → (rest ≡ 0 → ⊥) → x ≡ first w (has rest) → has others x ≡ true
other {w} {rest} {x} R n e = R.rest_in x (lowest-in w rest x R.rest_fits n e).1

pub loop-x-init : goal.loop-x-init
loop-x-init c =
    let e : c.into_iter-x-iterator.result.left ≡ c.args.others = search rules in
    rw e (revising-none c.requires.3 c.ranges.others.fits)

pub offset_bounds-lists-x : goal.offset_bounds-lists-x
offset_bounds-lists-x c = let s = c.in-Some.ensures.steps in let l = c.requires.2 _ (other c.loop-x.invariant s.0 s.1) in omega arith

pub bounds-lists-x : goal.bounds-lists-x
bounds-lists-x c = let s = c.in-Some.ensures.steps in let l = c.requires.2 _ (other c.loop-x.invariant s.0 s.1) in omega arith

pub offset_bounds-lists-x-in-loop-x : goal.offset_bounds-lists-x-in-loop-x
offset_bounds-lists-x-in-loop-x c = let s = c.in-Some.ensures.steps in let l = c.requires.2 _ (other c.loop-x.invariant s.0 s.1) in omega arith

pub bounds-lists-x-in-loop-x : goal.bounds-lists-x-in-loop-x
bounds-lists-x-in-loop-x c = let s = c.in-Some.ensures.steps in let l = c.requires.2 _ (other c.loop-x.invariant s.0 s.1) in omega arith

pub overflow_cast-changed-in-loop-x : goal.overflow_cast-changed-in-loop-x
overflow_cast-changed-in-loop-x c = let s = c.in-Some.ensures.steps in let l = c.requires.2 _ (other c.loop-x.invariant s.0 s.1) in omega arith

pub overflow_shl-changed : goal.overflow_shl-changed
overflow_shl-changed c = let s = c.in-Some.ensures.steps in let l = c.requires.2 _ (other c.loop-x.invariant s.0 s.1) in omega arith

pub supported-after-requires : goal.supported-after-requires
supported-after-requires c =
    let s = c.in-Some.ensures.steps in
    let o = other c.loop-x.invariant s.0 s.1 in
    (c.requires.2 _ o, c.requires.0, λ q. clash (ap (has _) (sym q) ∙ o) c.requires.1)

pub loop-x-preserved : goal.loop-x-preserved
loop-x-preserved c =
    let s = c.in-Some.ensures.steps in
    revising-more c.loop-x.invariant s.0 s.1 (c.requires.2 _ (other c.loop-x.invariant s.0 s.1))
    c.supported-after.ensures s.2 (2 ^ width) (pow_mono {i = 16} {j = width} (omega arith))

pub returns : goal.returns
returns c = revising-end c.loop-x.invariant c.in-None.ensures.steps.0
