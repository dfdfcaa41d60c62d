-- The loop's invariant: the rows are those of round `m`, of whatever edges the loop began with.
use mathlib.Core.Bool.{Bool}
use mathlib.Core.Path.{◌≡◌, ap, ◌∙◌}
use Prim.Native.Nat.{ℕ, ◌-◌, ◌≤◌}
use native.Mathlib.Omega.{arith}
use borrow.Author.Rules.{rules}
use Rattle.order_paths.proofs.Reached.{rounds, round-more}
use Rattle.order_paths.proofs.reach.closure.Statement.{statement}
use Rattle.order_paths.proofs.reach.closure.Tie as tie

abbrev invariant-loop : tie.invariant-loop-m
invariant-loop n paths₀ m₀ paths m = ((E : ℕ → ℕ → Bool) → paths₀ ≡ rounds E 0 → paths ≡ rounds E m) × (m ≤ n)

abbrev decreases-loop : tie.decreases-loop-m
decreases-loop n paths₀ m₀ paths m = n - m

loop-holds : tie.Need-loop-m-init invariant-loop decreases-loop
loop-holds c = (λ E e. e, omega arith)

loop-again : tie.Need-loop-m-preserved invariant-loop decreases-loop
loop-again c = (λ E e. round-more E _ (omega arith) (c.loop-m.invariant.0 E e) c.round-next.ensures, omega arith)

returns : tie.Need-returns invariant-loop decreases-loop
returns c =
    let l = c.loop-m in
    let end : l.m ≡ c.args.n = omega arith in
    l.invariant.0 _ c.with_own-paths.ensures ∙ ap (rounds _) end

pub closure_spec : {M : Type 1} → statement M
closure_spec =
    tie.close
    (tie.spec
    invariant-loop
    decreases-loop
    (λ c κs. search rules)
    loop-holds
    (λ c κs. search rules)
    (λ c. search rules)
    (λ c. search rules)
    loop-again
    returns)
