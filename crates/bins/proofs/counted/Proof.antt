-- A sum that fits is the sum, and a difference is taken only where the bin has enough.
use mathlib.Core.Path.{sym, ◌∙◌}
use Prim.Native.Nat.{◌<◌, ◌^◌}
use borrow.Author.Tests.{le-ltb, lt-ltb, le-leb, lt-leb}
use Rattle.bounded.proofs.Bool.{if-true, if-false}
use Rattle.bins.proofs.Shape.{within, beyond}
use Rattle.bins.specs.Plans.{count_of}
use borrow.Author.Rules.{rules}
use Rattle.bins.proofs.counted.Statement.{statement}
use Rattle.bins.proofs.counted.Tie as tie

returns : tie.Need-returns-then-c-p
unfolding count_of
returns c =
    let t = c in
    let k : t.args.p.amount < 2 ^ 32 = search rules in
    sym (if-true _ _ _ t.if-p.true ∙ if-false _ _ _ (lt-leb _ _ (within _ _ k c.if-c-p.true)))

returns-2 : tie.Need-returns-then-p
unfolding count_of
returns-2 c =
    let t = c in
    let k : t.args.p.amount < 2 ^ 32 = search rules in
    sym (if-true _ _ _ t.if-p.true ∙ if-true _ _ _ (le-leb _ _ (beyond _ _ k c.if-c-p.false)))

returns-3 : tie.Need-returns-then-p-c
unfolding count_of
returns-3 c = sym (if-false _ _ _ c.if-p.false ∙ if-false _ _ _ (le-ltb _ _ c.if-p-c.true))

returns-4 : tie.Need-returns
unfolding count_of
returns-4 c = sym (if-false _ _ _ c.if-p.false ∙ if-true _ _ _ (lt-ltb _ _ c.if-p-c.false))

pub counted_spec : {M : Type 1} → statement M
counted_spec = tie.close (tie.spec (λ c. search rules) (λ c. search rules) returns returns-2 returns-3 returns-4)
