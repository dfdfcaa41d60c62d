-- The loop's invariant: the pairs of the first `i` variables with higher ones pass. A turn tests those of one more: `later-side`. The first variable that fails
-- decides.
use mathlib.Core.Bool.{true}
use mathlib.Core.Path.{◌≡◌, sym, ◌∙◌}
use Prim.Native.Nat.{ℕ, ◌-◌, ◌≤◌, ◌<◌}
use native.Mathlib.Omega.{arith}
use lib.ListN.{get_or}
use borrow.Author.Count.{below_more}
use borrow.Author.Rules.{rules}
use Rattle.bounded.proofs.Bool.{clash, not-true→false}
use Rattle.solutions.proofs.Choices.{later_kept, later-in, later-side, later-all, later_of}
use Rattle.solutions.proofs.values.pairs_kept.Statement.{statement}
use Rattle.solutions.proofs.values.pairs_kept.Tie as tie

abbrev invariant-loop : tie.invariant-loop-i
invariant-loop n leaders stated rows values free i₀ i = (i ≤ n)
    × ((k : ℕ) → k < i → later_kept 32 n leaders (get_or stated k 0) rows values k ≡ true)

abbrev decreases-loop : tie.decreases-loop-i
decreases-loop n leaders stated rows values free i₀ i = n - i

loop-holds : tie.Need-loop-i-init invariant-loop decreases-loop
loop-holds c = (omega arith, λ k l. absurd (let x : ⊥ = omega arith in x))

among-kept-requires : tie.Need-among_kept-requires invariant-loop decreases-loop
among-kept-requires c κs =
    let full = c in
    let both = full in
    let f = both in (
      search rules,
      λ j t.
          let k = later-in 32 _ _ (omega arith) f.free_variables-free.ensures both.both-others.ensures _ full.full.ensures c.without-later.ensures j t in
          search rules,
    )

-- The test of a turn is that of the pairs of `i` with higher variables.
side : (c : tie.After-among_kept invariant-loop decreases-loop) → let l = c in
    let a = l.args in
    c.among_kept.result ≡ later_kept 32 a.n a.leaders.now (get_or a.stated.now l.loop-i.i 0) a.rows.now a.values.now l.loop-i.i
side c =
    let without = c in
    let full = without in
    let both = full in
    let f = both in
    let a = f.args in
    c.among_kept.ensures
    ∙ later-side 32 _ _ (omega arith) f.free_variables-free.ensures both.both-others.ensures _ full.full.ensures without.without-later.ensures a.rows.now
    a.values.now

returns : tie.Need-returns-then-not-among_kept invariant-loop decreases-loop
returns c =
    let l = c in
    let a = l.args in
    sym (not-true→false _ (λ t.
    clash (later_of 32 a.n a.leaders.now a.stated.now a.rows.now a.values.now t _ l.loop-i-test.true)
    (sym (side c.before) ∙ c.if-not-among_kept.true)))

loop-again : tie.Need-loop-i-preserved invariant-loop decreases-loop
loop-again c =
    let l = c in
    (omega arith, below_more _ _ l.loop-i.invariant.1 (sym (side c.before) ∙ c.if-not-among_kept.false))

returns-2 : tie.Need-returns invariant-loop decreases-loop
returns-2 c =
    let s = c in
    let a = s.args in
    sym (later-all 32 a.n a.leaders.now a.stated.now a.rows.now a.values.now s.requires.2 (λ k l. c.loop-i.invariant.1 k (omega arith)))

pub pairs_kept_spec : {M : Type 1} → statement M
pairs_kept_spec =
    tie.close
    (tie.spec
    invariant-loop
    decreases-loop
    (λ c κs. search rules)
    loop-holds
    (λ c. search rules)
    (λ c. search rules)
    (λ c κs. search rules)
    (λ c. search rules)
    (λ c κs. search rules)
    (λ c κs. search rules)
    (λ c. search rules)
    among-kept-requires
    returns
    (λ c. search rules)
    (λ c. search rules)
    loop-again
    returns-2)
