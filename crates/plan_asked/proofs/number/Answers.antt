use Rattle.std.proofs.Common.{rules, arith, refl, ◌≡◌, length}
use native.Mathlib.Numerals.{add-one}
use Rattle.plan_asked.specs.Asked.{number_of}
use Rattle.plan_asked.proofs.number.Goals as goal

pub loop-byte-init : goal.loop-byte-init
unfolding number_of
loop-byte-init c = (search rules, refl)

pub loop-byte-preserved : goal.loop-byte-preserved
unfolding number_of
loop-byte-preserved c = (search rules, rw (add-one, ← c.loop-byte.invariant.1) c.grow-value.ensures.0)

pub returns : goal.returns
returns c = let e : c.loop-byte.byte-index ≡ length c.args.word.now = omega arith in rw e at c.loop-byte.invariant.1
