-- The loop's invariant: the first `i` values are completed, and the others are as at entry. A turn completes one more.
use native.Mathlib.Omega.{arith}
use borrow.Author.Rules.{rules}
use mathlib.Core.Path.{◌≡◌}
use Prim.Native.Nat.{◌-◌, ◌≤◌}
use Rattle.solutions.specs.Choices.{Completed}
use Rattle.solutions.proofs.Choices.{completed-none, completed-more, leader-ready}
use Rattle.solutions.proofs.values.complete_values.Statement.{statement}
use Rattle.solutions.proofs.values.complete_values.Tie as tie

abbrev invariant-loop : tie.invariant-loop-i
invariant-loop n domains leaders rows values₀ i₀ values i = (i ≤ n) × Completed 32 i domains leaders rows values₀ values

abbrev decreases-loop : tie.decreases-loop-i
decreases-loop n domains leaders rows values₀ i₀ values i = n - i

loop-holds : tie.Need-loop-i-init invariant-loop decreases-loop
loop-holds c = (omega arith, completed-none)

value-completed-requires : tie.Need-value_completed-value-requires invariant-loop decreases-loop
value-completed-requires c κs = (
  omega (arith, c.requires.led_n),
  omega (arith, c.requires.led_length, c.loop-i.invariant.1.same_length),
  leader-ready c.requires c.loop-i.invariant.1 c.loop-i-test.true,
)

slice-write-values : tie.Need-bounds-values-i invariant-loop decreases-loop
slice-write-values c = omega (arith, c.requires.led_length, c.loop-i.invariant.1.same_length)

loop-again : tie.Need-loop-i-preserved invariant-loop decreases-loop
loop-again c = (
  omega arith,
  completed-more c.requires c.loop-i.invariant.1 c.loop-i-test.true
      c.value_completed-value.ensures,
)

same_length : tie.Need-shape_of-values invariant-loop decreases-loop
same_length c = c.loop-i.invariant.1.same_length

returns : tie.Need-returns invariant-loop decreases-loop
returns c = rw (let e : c.loop-i.i ≡ c.args.n = omega arith in e) at c.loop-i.invariant.1

pub complete_values_spec : {M : Type 1} → statement M
complete_values_spec =
    tie.close
    (tie.spec
    invariant-loop
    decreases-loop
    loop-holds
    value-completed-requires
    slice-write-values
    (λ c. search rules)
    (λ c. search rules)
    loop-again
    same_length
    returns)
