-- `&` of two tests: `machine-and`.
use mathlib.Core.Path.{sym, ◌∙◌}
use borrow.Author.Tests.{eqb-true}
use Rattle.bounded.proofs.Bool.{machine-and, and_l, and_r}
use Rattle.step_add.proofs.table.both_free.Statement.{statement}
use Rattle.step_add.proofs.table.both_free.Tie as tie

returns : tie.Need-returns
returns c = λ t. let b = sym (machine-and _ _) ∙ t in (eqb-true _ _ (and_l _ _ b), eqb-true _ _ (and_r _ _ b))

pub both_free_spec : {M : Type 1} → statement M
both_free_spec = tie.close (tie.spec returns)
