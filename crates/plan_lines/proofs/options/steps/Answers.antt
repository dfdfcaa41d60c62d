use Rattle.std.proofs.Common.{rules, arith, ◌≡◌, ◌∙◌, take}
use Rattle.std.specs.Prelude.{not, ◌==◌}
use Rattle.std.specs.List.{count_by}
use Rattle.plan_lines.proofs.Laws.{steps-told}
use Rattle.plan_lines.proofs.options.steps.Goals as goal

pub returns : goal.returns
returns c =
    let e : c.count.result ≡ count_by (λ l. not (l == 0)) (take c.args.n c.args.leaders.now) = search rules in
    e ∙ steps-told _ _ (omega arith)
