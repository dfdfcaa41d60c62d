-- The numbers decide, or the pair.
use mathlib.Core.Path.{sym, ◌∙◌}
use native.Mathlib.Omega.{arith}
use borrow.Author.Rules.{rules}
use Rattle.head.specs.Held.{held}
use Rattle.head.proofs.Held.{HeadShaped, shape, held-n}
use Rattle.answers.specs.Answers.{outcome_number}
use Rattle.step_choice.proofs.Judging.{Named, leader-zero, leader-above, follower-zero, follower-above, same-variable, refusal-counted, stated_apart}
use Rattle.step_choice.proofs.judge.Statement.{statement}
use Rattle.step_choice.proofs.judge.Tie as tie

returns : tie.Need-returns-then-leader-eq0
unfolding held outcome_number
returns c = sym (leader-zero _ _ _ c.if-leader-eq0.true)

returns-2 : tie.Need-returns-then-n-leader
unfolding held outcome_number
returns-2 c = sym (leader-above _ _ _ c.if-n-leader.true)

returns-3 : tie.Need-returns-then-follower-eq0
unfolding held outcome_number
returns-3 c = sym (follower-zero _ _ _ c.if-follower-eq0.true)

returns-4 : tie.Need-returns-then-n-follower
unfolding held outcome_number
returns-4 c = sym (follower-above _ _ _ c.if-n-follower.true)

named : (c : tie.Else-n-follower) → Named c.args.head.n
    c.args.leader c.args.follower
named c = search rules

returns-5 : tie.Need-returns-then-leader-follower
unfolding held outcome_number
returns-5 c = sym (same-variable _ _ _ (named c.before) c.if-leader-follower.true)

judge-pair-requires : tie.Need-judge_pair-requires
judge-pair-requires c κs =
    let s = c in
    let h : HeadShaped s.args.head = search shape in
    (omega (arith, held-n), omega (arith, held-n), stated_apart _ h s.requires)

-- The head's arrays are arrays.
shaped : (c : tie.Start) → HeadShaped c.args.head
shaped c = search shape

returns-6 : tie.Need-returns
returns-6 c = c.judge_pair.ensures
    ∙ refusal-counted _ (shaped c.before.before.before.before.before.before.before.before.before) c.requires (named c.before.before.before.before.before) c.if-leader-follower.false

pub judge_spec : {M : Type 1} → statement M
judge_spec =
    tie.close
    (tie.spec
    returns
    returns-2
    returns-3
    returns-4
    returns-5
    (λ c. search rules)
    (λ c. search rules)
    (λ c. omega (arith, held-n))
    (λ c. omega (arith, held-n))
    (λ c. omega (arith, held-n))
    (λ c. omega (arith, held-n))
    (λ c. omega (arith, held-n))
    (λ c. omega (arith, held-n))
    (λ c. omega (arith, held-n))
    (λ c. omega (arith, held-n))
    judge-pair-requires
    returns-6)
