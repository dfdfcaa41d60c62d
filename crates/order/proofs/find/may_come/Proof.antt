-- One that is not left may not come; for any other the words decide.
use mathlib.Core.Path.{sym, ap, ◌∙◌}
use lib.Dec.{eqb}
use Prim.Native.Nat.{ℕ}
use borrow.Author.Rules.{rules}
use Rattle.bounded.proofs.Bool.{and-fails, and-holds}
use Rattle.order.specs.Orders.{may_come}
use Rattle.order.proofs.find.may_come.Statement.{statement}
use Rattle.order.proofs.find.may_come.Tie as tie

returns : tie.Need-returns-then-not-member
unfolding may_come
returns c = sym (and-fails _ _ (sym c.member.ensures ∙ c.if-not-member.true))

returns-2 : tie.Need-returns
unfolding may_come
returns-2 c =
    let d = c in
    ap (λ (x : ℕ). eqb x 0) c.both.ensures ∙ sym (and-holds _ _ (sym d.member.ensures ∙ d.if-not-member.false))

pub may_come_spec : {M : Type 1} → statement M
may_come_spec = tie.close (tie.spec (λ c κs. search rules) returns (λ c κs. search rules) returns-2)
