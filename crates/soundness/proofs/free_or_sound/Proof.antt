-- A free variable passes; another is tested with its leader, whose number counts from 1.
use mathlib.Core.Path.{sym, ◌∙◌}
use borrow.Author.Rules.{rules}
use borrow.Author.Tests.{eq-eqb, ne_eqb}
use Rattle.bounded.proofs.Bool.{not-i, not-false-i, implies_true, implies-false}
use Rattle.soundness.specs.Parts.{free_or_fits}
use Rattle.soundness.proofs.Tests.{from_one}
use Rattle.soundness.proofs.free_or_sound.Statement.{statement}
use Rattle.soundness.proofs.free_or_sound.Tie as tie

returns : tie.Need-returns-then-leader-eq0
unfolding free_or_fits
returns c = sym (implies-false _ _ (not-false-i _ (eq-eqb _ _ c.if-leader-eq0.true)))

returns-2 : tie.Need-returns
unfolding free_or_fits
returns-2 c =
    rw (from_one c.wide.ensures) at c.follower_sound.ensures ∙ sym (implies_true _ _ (not-i _ (ne_eqb _ _ c.if-leader-eq0.false)))

pub free_or_sound_spec : {M : Type 1} → statement M
free_or_sound_spec =
    tie.close
    (tie.spec
    (λ c. search rules)
    returns
    (λ c κs. search rules)
    (λ c. search rules)
    (λ c κs. search rules)
    returns-2)
