-- A row that lacks `m` stays.
use mathlib.Core.Path.{sym, ◌∙◌}
use borrow.Author.Rules.{rules}
use Rattle.bounded.proofs.Bool.{if-true, if-false}
use Rattle.order_paths.proofs.reach.through.Statement.{statement}
use Rattle.order_paths.proofs.reach.through.Tie as tie

returns : tie.Need-returns-then-not-member
returns c = sym (if-false _ _ _ (sym c.member.ensures ∙ c.if-not-member.true))

returns-2 : tie.Need-returns
returns-2 c = let d = c in c.either.ensures ∙ sym (if-true _ _ _ (sym d.member.ensures ∙ d.if-not-member.false))

pub through_spec : {M : Type 1} → statement M
through_spec = tie.close (tie.spec (λ c κs. search rules) returns (λ c κs. search rules) returns-2)
