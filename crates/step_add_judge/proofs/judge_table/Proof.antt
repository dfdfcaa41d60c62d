-- The numbers decide, or the two variables and the rows.
use mathlib.Core.Bool.{false}
use mathlib.Core.Path.{◌≡◌, sym, ◌∙◌}
use Prim.Native.Nat.{◌-◌}
use native.Mathlib.Omega.{arith}
use lib.Dec.{eqb, ltb}
use borrow.Author.Rules.{rules}
use Rattle.bounded.specs.Bool.{or}
use Rattle.bounded.proofs.Bool.{or_l, or_r, if-true}
use Rattle.network.specs.Step.{outside}
use Rattle.network.specs.Added.{add_refusal}
use Rattle.head.specs.Held.{held}
use Rattle.answers.specs.Answers.{outcome_number}
use Rattle.step_add_judge.proofs.Judging.{rest-decides, numbered}
use Rattle.step_add_judge.proofs.judge_table.Statement.{statement}
use Rattle.step_add_judge.proofs.judge_table.Tie as tie

returns : tie.Need-returns-then-outside
unfolding held outside outcome_number add_refusal
returns c rows = sym (if-true _ _ _ (or_l _ _ (sym c.outside.ensures ∙ c.if-outside.true)))

returns-2 : tie.Need-returns-then-outside-2
unfolding held outside outcome_number add_refusal
returns-2 c rows = sym (if-true _ _ _ (or_r _ _ (sym c.outside-2.ensures ∙ c.if-outside-2.true)))

-- Past these two both numbers name a variable.
first_in : (c : tie.Else-outside-2) → let a = c.args in or (eqb a.first 0) (ltb a.head.n a.first) ≡ false
first_in c = sym c.outside.ensures ∙ c.if-outside.false

second_in : (c : tie.Else-outside-2) → let a = c.args in or (eqb a.second 0) (ltb a.head.n a.second) ≡ false
second_in c = sym c.outside-2.ensures ∙ c.if-outside-2.false

size-of-requires : tie.Need-size_of-size-requires
size-of-requires c κs = let n = numbered _ _ (first_in c) in (n.0, omega arith)

size-of-requires-2 : tie.Need-size_of-other-requires
size-of-requires-2 c κs = let n = numbered _ _ (second_in c.before) in (n.0, omega arith)

rows-fit-requires : tie.Need-rows_fit-requires
rows-fit-requires c κs =
    let s = c in
    let h = s.requires.1 (s.args.second - 1) in
    omega (arith, c.size_of-other.ensures)

returns-3 : tie.Need-returns
unfolding held outside
returns-3 c rows =
    let f = c in
    let other = f in
    let size = other in
    let a = size.args in
    rest-decides _ a.first a.second _ (first_in c.before.before.before.before) (second_in c.before.before.before.before) size.size_of-size.ensures other.size_of-other.ensures
    f.rows_fit.ensures c.decided.ensures

pub judge_table_spec : {M : Type 1} → statement M
judge_table_spec =
    tie.close
    (tie.spec
    (λ c κs. search rules)
    returns
    (λ c κs. search rules)
    returns-2
    size-of-requires
    size-of-requires-2
    rows-fit-requires
    (λ c κs. search rules)
    returns-3)
