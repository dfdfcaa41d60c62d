-- Its three cases.
use mathlib.Core.Path.{sym, ◌∙◌}
use borrow.Author.Tests.{lt-ltb, le-ltb, eq-eqb, ne_eqb}
use borrow.Author.Rules.{rules}
use Rattle.bounded.proofs.Bool.{if-true, if-false}
use Rattle.bins_text.specs.Machine.{judged_end}
use Rattle.bins_text.proofs.judged_end.Statement.{statement}
use Rattle.bins_text.proofs.judged_end.Tie as tie

returns : tie.Need-returns-then-r-ne0
unfolding judged_end
returns c = sym (if-false _ _ _ (ne_eqb _ _ c.if-r-ne0.true))

returns-2 : tie.Need-returns-then-r-bins_count
unfolding judged_end
returns-2 c = let t = c in let b = t in c.refused_at.ensures ∙ sym (if-true _ _ _ (eq-eqb _ _ b.if-r-ne0.false) ∙ if-true _ _ _ (lt-ltb _ _ (rw b.bins_count.ensures at t.if-r-bins_count.true)))

returns-3 : tie.Need-returns
unfolding judged_end
returns-3 c = let b = c in sym (if-true _ _ _ (eq-eqb _ _ b.if-r-ne0.false) ∙ if-false _ _ _ (le-ltb _ _ (rw b.bins_count.ensures at c.if-r-bins_count.false)))

pub judged_end_spec : {M : Type 1} → statement M
judged_end_spec = tie.close (tie.spec returns (λ c κs. search rules) (λ c κs. search rules) returns-2 returns-3)
