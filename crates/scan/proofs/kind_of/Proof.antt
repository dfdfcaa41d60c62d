-- Its three cases.
use mathlib.Core.Path.{sym, ◌∙◌}
use borrow.Author.Rules.{rules}
use Rattle.bounded.proofs.Bool.{if-true, if-false}
use Rattle.scan.specs.Bytes.{kind_of}
use Rattle.scan.proofs.kind_of.Statement.{statement}
use Rattle.scan.proofs.kind_of.Tie as tie

returns : tie.Need-returns-then-one_of
unfolding kind_of
returns c = sym (if-true _ _ _ (sym c.one_of.ensures ∙ c.if-one_of.true))

returns-2 : tie.Need-returns-then-one_of-2
unfolding kind_of
returns-2 c = let o = c in sym (if-false _ _ _ (sym o.one_of.ensures ∙ o.if-one_of.false) ∙ if-true _ _ _ (sym c.one_of-2.ensures ∙ c.if-one_of-2.true))

returns-3 : tie.Need-returns
unfolding kind_of
returns-3 c = let o = c in sym (if-false _ _ _ (sym o.one_of.ensures ∙ o.if-one_of.false) ∙ if-false _ _ _ (sym c.one_of-2.ensures ∙ c.if-one_of-2.false))

pub kind_of_spec : {M : Type 1} → statement M
kind_of_spec = tie.close (tie.spec (λ c κs. search rules) returns (λ c κs. search rules) returns-2 returns-3)
