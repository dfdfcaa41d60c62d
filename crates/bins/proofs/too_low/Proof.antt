-- A delivery finds no bin too low.
use mathlib.Core.Path.{sym, ◌∙◌}
use Rattle.bounded.proofs.Bool.{and-holds, and-fails, not-i, not-false-i}
use Rattle.bins.specs.Plans.{too_low}
use borrow.Author.Rules.{rules}
use Rattle.bins.proofs.too_low.Statement.{statement}
use Rattle.bins.proofs.too_low.Tie as tie

returns : tie.Need-returns-then-p
unfolding too_low
returns c = sym (and-holds _ _ (sym c.is_named.ensures ∙ c.if-is_named.true) ∙ and-fails _ _ (not-false-i _ c.if-p.true))

returns-2 : tie.Need-returns-then-is_named
unfolding too_low
returns-2 c =
    let t = c in
    sym (and-holds _ _ (sym t.is_named.ensures ∙ t.if-is_named.true) ∙ and-holds _ _ (not-i _ c.if-p.false))

returns-3 : tie.Need-returns
unfolding too_low
returns-3 c = sym (and-fails _ _ (sym c.is_named.ensures ∙ c.if-is_named.false))

pub too_low_spec : {M : Type 1} → statement M
too_low_spec = tie.close (tie.spec (λ c κs. search rules) returns returns-2 returns-3)
