-- All rows are one run, or those past the size are one and the others another.
use mathlib.Core.Path.{refl, sym, ap, ◌∙◌}
use Prim.Native.Nat.{ℕ}
use native.Mathlib.Omega.{arith}
use lib.Dec.{eqb}
use borrow.Author.Rules.{rules}
use borrow.Author.Tests.{eq-eqb, ne_eqb}
use Rattle.bounded.proofs.Bool.{and-fails, and-holds}
use Rattle.soundness_head.specs.Fits.{within}
use Rattle.soundness_rows.specs.Fits.{constraint_fits}
use Rattle.soundness_rows.proofs.Tests.{run-same, whole_is}
use Rattle.soundness_rows.proofs.constraint_sound.Statement.{statement}
use Rattle.soundness_rows.proofs.constraint_sound.Tie as tie

returns : tie.Need-returns-then-size-eq-WIDTH
unfolding within
returns c = whole_is 32 _ _ _ c.if-size-eq-WIDTH.true (run-same 32 _ c.joined.ensures refl (omega arith)) c.within.ensures

returns-2 : tie.Need-returns-then-joined-ne0
unfolding constraint_fits
returns-2 c =
    sym (and-fails _ _ (ap (λ (x : ℕ). eqb x 0) (sym (run-same 32 _ c.joined-2.ensures refl (omega arith))) ∙ ne_eqb _ _ c.if-joined-ne0.true))

returns-3 : tie.Need-returns
unfolding within constraint_fits
returns-3 c =
    let past = c in
    c.within-2.ensures ∙ ap (λ (x : ℕ). within 32 x past.args.other) (run-same 32 _ c.joined-3.ensures refl (omega arith))
    ∙ sym (and-holds _ _ (ap (λ (x : ℕ). eqb x 0) (sym (run-same 32 _ past.joined-2.ensures refl (omega arith))) ∙ eq-eqb _ _ past.if-joined-ne0.false))

pub constraint_sound_spec : {M : Type 1} → statement M
constraint_sound_spec =
    tie.close
    (tie.spec
    (λ c. search rules)
    (λ c κs. search rules)
    (λ c κs. search rules)
    returns
    (λ c. search rules)
    (λ c. search rules)
    (λ c κs. search rules)
    returns-2
    (λ c κs. search rules)
    (λ c κs. search rules)
    returns-3)
