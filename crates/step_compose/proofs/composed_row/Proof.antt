-- Each answer is a case of rule 2 for one value: `made_none`, `made-free`, `made-stated`.
use mathlib.Core.Bool.{true, false}
use mathlib.Core.Path.{◌≡◌, sym, ◌∙◌}
use borrow.Author.Rules.{rules}
use Rattle.step_compose.proofs.Composition.{made_none, made-free, made-stated}
use Rattle.step_compose.proofs.composed_row.Statement.{statement}
use Rattle.step_compose.proofs.composed_row.Tie as tie

pub composed_row_spec : {M : Type 1} → statement M
composed_row_spec =
    tie.close
    (tie.spec
    (λ c κs. search rules)
    (λ c. made_none 32 _ c.args.t _ (sym c.member.ensures ∙ c.if-not-member.true))
    (λ c κs. search rules)
    (λ c κs. search rules)
    (λ c κs. search rules)
    (λ c κs. search rules)
    (λ c.
    let free : c.args.t.was ≡ false = search rules in
    made-free 32 _ c.args.t _
    (sym c.member.ensures ∙ c.if-not-member.false) c.row.ensures c.both-joining.ensures
    c.partners.ensures c.both-joined.ensures free)
    (λ c κs. search rules)
    (λ c κs. search rules)
    (λ c.
    let stated : c.args.t.was ≡ true = search rules in
    made-stated 32 _ c.args.t _
    (sym c.member.ensures ∙ c.if-not-member.false) c.row.ensures c.both-joining.ensures
    c.partners.ensures c.both-joined.ensures stated c.row-2.ensures c.both.ensures))
