-- The loop's invariant: the values of `k` below `c` are done, whatever rows were given to the step. A turn does one more.
use mathlib.Core.List.{List}
use mathlib.Core.Path.{◌≡◌, refl, ◌∙◌}
use Prim.Native.Nat.{ℕ, ◌-◌, ◌≤◌}
use native.Mathlib.Numerals.{add-one}
use native.Mathlib.Omega.{arith}
use lib.ListN.{length}
use borrow.Author.Rules.{rules}
use Rattle.step_compose.specs.Compose.{Unread, Composing}
use Rattle.step_compose.proofs.Composition.{composing-none}
use Rattle.step_compose.proofs.compose_below.Statement.{statement}
use Rattle.step_compose.proofs.compose_below.Tie as tie

abbrev invariant-loop : tie.invariant-loop-c
invariant-loop rows₀ t n c₀ rows c =
    ((given : List ℕ) → Unread 32 given rows₀ t → Composing 32 given rows₀ rows t c) × (c ≤ n) × (length rows ≡ length rows₀)

abbrev decreases-loop : tie.decreases-loop-c
decreases-loop rows₀ t n c₀ rows c = n - c

loop-holds : tie.Need-loop-c-init invariant-loop decreases-loop
loop-holds c = ((λ given u. composing-none u), omega arith, refl)

loop-again : tie.Need-loop-c-preserved invariant-loop decreases-loop
loop-again c =
    let i = c.loop-c.invariant in
    ((λ given u. rw add-one (c.compose_value.ensures.0 given _ (i.0 given u) u)), omega arith, c.compose_value.ensures.1 ∙ i.2)

returns : tie.Need-returns invariant-loop decreases-loop
returns c = λ given u. rw (let e : c.loop-c.c ≡ c.args.n = omega arith in e) at (c.loop-c.invariant.0 given u)

pub compose_below_spec : {M : Type 1} → statement M
compose_below_spec =
    tie.close
    (tie.spec
    invariant-loop
    decreases-loop
    loop-holds
    (λ c κs. let p = c.requires in (p.0, omega arith, c.loop-c.invariant.2 ∙ p.2))
    (λ c. search rules)
    (λ c. search rules)
    loop-again
    returns)
