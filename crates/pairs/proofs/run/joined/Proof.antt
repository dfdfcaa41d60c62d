-- The loop's invariant: the rows up to `k` have been joined.
use mathlib.Core.List.{List}
use mathlib.Core.Path.{◌≡◌}
use Prim.Native.Nat.{ℕ, ◌+◌, ◌-◌, ◌≤◌}
use native.Mathlib.Omega.{arith}
use lib.ListN.{get_or}
use borrow.Author.Rules.{rules}
use Rattle.bounded.specs.Bool.{or}
use Rattle.words.specs.Word.{has, word}
use Rattle.pairs.specs.Pairs.{join_of}
use Rattle.pairs.proofs.Runs.{join-none, join_more}
use Rattle.pairs.proofs.run.joined.Statement.{statement}
use Rattle.pairs.proofs.run.joined.Tie as tie

abbrev invariant-loop : tie.invariant-loop-k
invariant-loop rows at end all₀ k₀ all k = (at ≤ k) × (k ≤ end) × (all ≡ join_of 32 rows at (k - at))

abbrev decreases-loop : tie.decreases-loop-k
decreases-loop rows at end all₀ k₀ all k = end - k

joins : (rows : List ℕ) (at : ℕ) {n m all : ℕ} → n ≡ m → all ≡ join_of 32 rows at n → all ≡ join_of 32 rows at m
joins rows at e h = rw e at h

next : (rows : List ℕ) (at : ℕ) {k : ℕ} (n : ℕ) {all r : ℕ} → at + n ≡ k → all ≡ join_of 32 rows at n
    → r ≡ word 32 (λ (u : ℕ). or (has all u) (has (get_or rows k 0) u))
    → r ≡ join_of 32 rows at (k + 1 - at)
next rows at n {all} {r} e h q = joins rows at (omega arith) (join_more 32 rows at n all r h (rw e q))

loop-holds : tie.Need-loop-k-init invariant-loop decreases-loop
loop-holds c = (omega arith, omega arith, joins _ _ (omega arith) (join-none 32 _ _))

loop-again : tie.Need-loop-k-preserved invariant-loop decreases-loop
loop-again c =
    let i = c.loop-k.invariant in
    (omega arith, omega arith, next _ _ _ (omega arith) i.2 c.either-all.ensures)

returns : tie.Need-returns invariant-loop decreases-loop
returns c = joins _ _ (omega arith) c.loop-k.invariant.2

pub joined_spec : {M : Type 1} → statement M
joined_spec =
    tie.close
    (tie.spec
    invariant-loop
    decreases-loop
    loop-holds
    (λ c. search rules)
    (λ c. search rules)
    (λ c κs. search rules)
    (λ c. search rules)
    (λ c. search rules)
    loop-again
    returns)
