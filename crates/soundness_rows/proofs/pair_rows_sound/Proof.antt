-- Each way through the test is a case of the definition.
use mathlib.Core.Path.{sym, ap, ◌∙◌}
use Prim.Native.Nat.{ℕ}
use native.Mathlib.Omega.{arith}
use lib.Dec.{eqb}
use borrow.Author.Rules.{rules}
use Rattle.bounded.proofs.Bool.{if-true, if-false}
use Rattle.soundness_rows.specs.Fits.{pair_rows_fit}
use Rattle.soundness_rows.proofs.Tests.{run-same}
use Rattle.soundness_rows.proofs.pair_rows_sound.Statement.{statement}
use Rattle.soundness_rows.proofs.pair_rows_sound.Tie as tie

returns : tie.Need-returns-then-not-stated
unfolding pair_rows_fit
returns c =
    ap (λ (x : ℕ). eqb x 0) (run-same 32 _ c.joined.ensures c.place-at.ensures.0 (omega arith))
    ∙ sym (if-false _ _ _ (c.if-not-stated.true))

returns-2 : tie.Need-returns
unfolding pair_rows_fit
returns-2 c = rw c.place-at.ensures.0 at c.constraint_sound.ensures ∙ sym (if-true _ _ _ (c.if-not-stated.false))

pub pair_rows_sound_spec : {M : Type 1} → statement M
pair_rows_sound_spec =
    tie.close
    (tie.spec
    (λ c κs. search rules)
    (λ c. search rules)
    (λ c κs. search rules)
    returns
    (λ c κs. search rules)
    returns-2)
