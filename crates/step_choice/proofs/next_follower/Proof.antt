-- The loop's invariant: no variable below j can follow i. The first that can ends it.
use mathlib.Core.Bool.{false}
use mathlib.Core.Path.{◌≡◌, sym, ap, ◌∙◌}
use Prim.Native.Nat.{ℕ, ◌-◌, ◌≤◌, ◌<◌}
use native.Mathlib.Omega.{arith}
use borrow.Author.Count.{below_more}
use borrow.Author.Rules.{rules}
use Rattle.head.proofs.Held.{HeadShaped, shape, held-n}
use Rattle.answers.specs.Answers.{outcome_number}
use Rattle.step_choice.proofs.Judging.{legal_at, stated_apart}
use Rattle.step_choice.proofs.Searching.{judged-legal, judged-refused, none-outside, follower-found, none-follows}
use Rattle.step_choice.proofs.next_follower.Statement.{statement}
use Rattle.step_choice.proofs.next_follower.Tie as tie

abbrev invariant-loop : tie.invariant-loop-j
invariant-loop rows i n leaders domains stated j₀ j = (j ≤ n) × ((y : ℕ) → y < j → legal_at leaders domains stated rows i y ≡ false)

abbrev decreases-loop : tie.decreases-loop-j
decreases-loop rows i n leaders domains stated j₀ j = n - j

returns : tie.Need-returns-then-n-i invariant-loop decreases-loop
returns c = none-outside _ _ _ c.if-n-i.true

loop-holds : tie.Need-loop-j-init invariant-loop decreases-loop
loop-holds c = (omega arith, λ y l. absurd (let b : ⊥ = omega arith in b))

judge-pair-requires : tie.Need-judge_pair-judgement-requires invariant-loop decreases-loop
judge-pair-requires c κs =
    let s = c in
    let h : HeadShaped s.args.head = search shape in
    (omega (arith, held-n), omega (arith, held-n), stated_apart _ h s.requires)

returns-2 : tie.Need-returns-in-Ok invariant-loop decreases-loop
returns-2 c =
    let l = c.loop-j in
    let s = c in
    let h : HeadShaped s.args.head = search shape in
    follower-found _ h s.requires (omega arith) (omega arith)
    (judged-legal _ (ap outcome_number (sym c.in-Ok.is) ∙ c.judge_pair-judgement.ensures)) l.invariant.1

loop-again : tie.Need-loop-j-preserved invariant-loop decreases-loop
loop-again c =
    let l = c.loop-j in
    (omega arith, below_more _ _ l.invariant.1 (judged-refused _ _ (ap outcome_number (sym c.in_default.is) ∙ c.judge_pair-judgement.ensures)))

returns-3 : tie.Need-returns invariant-loop decreases-loop
returns-3 c =
    let l = c.loop-j in
    let s = c in
    let h : HeadShaped s.args.head = search shape in
    none-follows _ h s.requires _ (omega arith) (λ y m. l.invariant.1 y (omega arith))

pub next_follower_spec : {M : Type 1} → statement M
next_follower_spec =
    tie.close
    (tie.spec
    invariant-loop
    decreases-loop
    returns
    loop-holds
    (λ c. omega (arith, held-n))
    (λ c. omega (arith, held-n))
    (λ c. omega (arith, held-n))
    (λ c. omega (arith, held-n))
    (λ c. omega (arith, held-n))
    (λ c. omega (arith, held-n))
    (λ c. omega (arith, held-n))
    (λ c. omega (arith, held-n))
    judge-pair-requires
    (λ c. search rules)
    returns-2
    (λ c. search rules)
    (λ c. search rules)
    (λ c. search rules)
    loop-again
    returns-3)
