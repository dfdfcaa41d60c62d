-- The loops' invariants: no pair with a leader below i is legal, and none of i with a follower below j. The first legal pair leaves both loops.
use mathlib.Core.Bool.{false}
use mathlib.Core.Path.{◌≡◌, refl, sym, ap, ◌∙◌}
use Prim.Native.Nat.{ℕ, ◌-◌, ◌≤◌, ◌<◌}
use native.Mathlib.Omega.{arith}
use borrow.Author.Count.{below_more}
use borrow.Author.Rules.{rules}
use Rattle.head.proofs.Held.{HeadShaped, shape, held-n}
use Rattle.answers.specs.Answers.{outcome_number}
use Rattle.std.specs.Prelude.{None}
use Rattle.step_choice.proofs.Judging.{legal_at, stated_apart}
use Rattle.step_choice.proofs.Searching.{judged-legal, judged-refused, led-leads-none, next-found, next-none}
use Rattle.step_choice.proofs.next_pair.Statement.{statement}
use Rattle.step_choice.proofs.next_pair.Tie as tie

abbrev invariant-loop : tie.invariant-loop-j
invariant-loop rows n leaders domains stated found₀ i j₀ found j = (j ≤ n)
    × (found ≡ None)
    × ((y : ℕ) → y < j → legal_at leaders domains stated rows i y ≡ false)

abbrev decreases-loop : tie.decreases-loop-j
decreases-loop rows n leaders domains stated found₀ i j₀ found j = n - j

abbrev invariant-search : tie.invariant-search
invariant-search rows n leaders domains stated found₀ i₀ found i = (i ≤ n)
    × (found ≡ None)
    × ((x : ℕ) → x < i → (y : ℕ) → y < n → legal_at leaders domains stated rows x y ≡ false)

abbrev decreases-search : tie.decreases-search
decreases-search rows n leaders domains stated found₀ i₀ found i = n - i

search-holds : tie.Need-search-init invariant-loop decreases-loop invariant-search decreases-search
search-holds c = (omega arith, refl, λ x l. absurd (let b : ⊥ = omega arith in b))

search-again : tie.Need-search-preserved-then-leaders-i-ne0 invariant-loop decreases-loop invariant-search decreases-search
search-again c =
    let s = c.search in
    (omega arith, s.invariant.1, below_more _ _ s.invariant.2 (λ y l. led-leads-none _ _ _ c.if-leaders-i-ne0.true))

loop-holds : tie.Need-loop-j-init invariant-loop decreases-loop invariant-search decreases-search
loop-holds c = (omega arith, c.search.invariant.1, λ x l. absurd (let b : ⊥ = omega arith in b))

judge-pair-requires : tie.Need-judge_pair-judgement-requires invariant-loop decreases-loop invariant-search decreases-search
judge-pair-requires c κs =
    let s = c in
    let h : HeadShaped s.args.head = search shape in
    (omega (arith, held-n), omega (arith, held-n), stated_apart _ h s.requires)

loop-again : tie.Need-loop-j-preserved invariant-loop decreases-loop invariant-search decreases-search
loop-again c =
    let l = c.loop-j in (
      omega arith,
      l.invariant.1,
      below_more _ _ l.invariant.2 (judged-refused _ _ (ap outcome_number (sym c.in_default.is) ∙ c.judge_pair-judgement.ensures)),
    )

search-again-2 : tie.Need-search-preserved invariant-loop decreases-loop invariant-search decreases-search
search-again-2 c =
    let l = c.loop-j in
    let s = c.search in
    (omega arith, l.invariant.1, below_more _ _ s.invariant.2 (λ y b. l.invariant.2 y (omega arith)))

returns : tie.Need-returns-after-search invariant-loop decreases-loop invariant-search decreases-search
returns c =
    let s = c.search in
    let b = c in
    let h : HeadShaped b.args.head = search shape in
    s.invariant.1 ∙ next-none _ h b.requires (λ x k. s.invariant.2 x (omega arith))

returns-2 : tie.Need-returns-in-Ok invariant-loop decreases-loop invariant-search decreases-search
returns-2 c =
    let l = c.loop-j in
    let a = c in
    let b = a in
    let h : HeadShaped b.args.head = search shape in
    next-found _ h b.requires (omega arith) (omega arith)
    (judged-legal _ (ap outcome_number (sym c.in-Ok.is) ∙ c.judge_pair-judgement.ensures)) a.search.invariant.2 l.invariant.2

pub next_pair_spec : {M : Type 1} → statement M
next_pair_spec =
    tie.close
    (tie.spec
    invariant-loop
    decreases-loop
    invariant-search
    decreases-search
    search-holds
    (λ c. omega (arith, held-n))
    (λ c. search rules)
    (λ c. search rules)
    search-again
    loop-holds
    (λ c. omega (arith, held-n))
    (λ c. omega (arith, held-n))
    (λ c. omega (arith, held-n))
    (λ c. omega (arith, held-n))
    (λ c. omega (arith, held-n))
    (λ c. omega (arith, held-n))
    (λ c. omega (arith, held-n))
    (λ c. omega (arith, held-n))
    judge-pair-requires
    (λ c. search rules)
    (λ c. search rules)
    (λ c. search rules)
    (λ c. search rules)
    loop-again
    (λ c. search rules)
    (λ c. search rules)
    search-again-2
    returns
    returns-2)
