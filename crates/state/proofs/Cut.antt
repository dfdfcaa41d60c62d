-- The two cases of a cut, by what reading says.
use mathlib.Core.Path.{◌≡◌}
use lib.Dec.{eqb}
use borrow.Author.Tests.{eq-eqb, ne_eqb}
use Rattle.bounded.proofs.Bool.{if-true, if-false}
use Rattle.state.specs.Answers.{ReadTold}
use Rattle.state.specs.Steps.{reduced}
use Rattle.state.specs.Cut.{cut_accepted, cut_refused, cut_as}

module _ (r : ReadTold) where
  pub cut-taken : r.number ≡ 0 → cut_as r ≡ cut_accepted r (reduced r.state)
  unfolding cut_as
  cut-taken e = if-true _ _ _ (eq-eqb r.number 0 e)

  pub cut-away : (r.number ≡ 0 → ⊥) → cut_as r ≡ cut_refused r
  unfolding cut_as
  cut-away h = if-false _ _ _ (ne_eqb r.number 0 h)
