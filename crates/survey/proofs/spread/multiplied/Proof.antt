-- The loop's invariant: the count of the first `i` factors. A turn takes one factor more.
use mathlib.Core.Path.{◌≡◌}
use Prim.Native.Nat.{ℕ, ◌-◌, ◌*◌, ◌≤◌}
use native.Mathlib.Omega.{arith}
use lib.ListN.{get_or}
use borrow.Author.Rules.{rules}
use Rattle.bounded.specs.Fold.{product}
use Rattle.survey.specs.Spread.{Counts, besides_of}
use Rattle.survey.proofs.Spreading.{counts-none, counts-more}
use Rattle.survey.proofs.spread.multiplied.Statement.{statement}
use Rattle.survey.proofs.spread.multiplied.Tie as tie

abbrev invariant-loop : tie.invariant-loop-i
invariant-loop n others lists tallied counted₀ i₀ counted i =
    (i ≤ n) × Counts counted (product i (λ (k : ℕ). besides_of others (get_or lists k 0) k) * tallied)

abbrev decreases-loop : tie.decreases-loop-i
decreases-loop n others lists tallied counted₀ i₀ counted i = n - i

loop-holds : tie.Need-loop-i-init invariant-loop decreases-loop
loop-holds c = (omega arith, counts-none _ _ (let l = c.ranges.tallied.fits in omega arith))

loop-again : tie.Need-loop-i-preserved invariant-loop decreases-loop
loop-again c = (
  omega arith,
  counts-more _ _ _ c.loop-i.invariant.1 c.besides.ensures c.times-counted.ensures,
)

returns : tie.Need-returns invariant-loop decreases-loop
returns c = rw (let e : c.loop-i.i ≡ c.args.n = omega arith in e) at c.loop-i.invariant.1

pub multiplied_spec : {M : Type 1} → statement M
multiplied_spec =
    tie.close
    (tie.spec
    invariant-loop
    decreases-loop
    loop-holds
    (λ c. search rules)
    (λ c. search rules)
    (λ c κs. search rules)
    (λ c κs. search rules)
    (λ c. search rules)
    (λ c. search rules)
    loop-again
    returns)
