-- The code subtracts where the definition adds (`over`), so that nothing wraps.
use mathlib.Core.Path.{sym, ◌∙◌}
use Prim.Native.Nat.{◌<◌, ◌^◌}
use Rattle.bounded.proofs.Bool.{and-holds, and-fails}
use Rattle.bins.proofs.Shape.{over}
use Rattle.bins.specs.Plans.{too_high}
use borrow.Author.Rules.{rules}
use Rattle.bins.proofs.too_high.Statement.{statement}
use Rattle.bins.proofs.too_high.Tie as tie

returns : tie.Need-returns-then-p
unfolding too_high
returns c =
    let t = c in
    let k : t.args.p.amount < 2 ^ 32 = search rules in
    over _ _ k ∙ sym (and-holds _ _ (sym t.is_named.ensures ∙ t.if-is_named.true) ∙ and-holds _ _ c.if-p.true)

returns-2 : tie.Need-returns-else-p
unfolding too_high
returns-2 c = sym (and-holds _ _ (sym c.is_named.ensures ∙ c.if-is_named.true) ∙ and-fails _ _ c.if-p.false)

returns-3 : tie.Need-returns-else-is_named
unfolding too_high
returns-3 c = sym (and-fails _ _ (sym c.is_named.ensures ∙ c.if-is_named.false))

pub too_high_spec : {M : Type 1} → statement M
too_high_spec = tie.close (tie.spec (λ c κs. search rules) (λ c. search rules) returns returns-2 returns-3)
