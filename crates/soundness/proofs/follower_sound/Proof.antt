-- Each way through the test is a case of the definition. The leader is not the follower, which is not stated with itself: `not_itself`.
use mathlib.Core.Path.{sym, ◌∙◌}
use native.Mathlib.Omega.{arith}
use borrow.Author.Rules.{rules}
use borrow.Author.Tests.{lt-ltb, le-ltb, eq-eqb, ne_eqb}
use Rattle.bounded.proofs.Bool.{and-fails, and-holds}
use Rattle.words.specs.Word.{width}
use Rattle.soundness.specs.Parts.{follower_fits}
use Rattle.soundness.proofs.Tests.{not_itself, follower-tied}
use Rattle.soundness.proofs.follower_sound.Statement.{statement}
use Rattle.soundness.proofs.follower_sound.Tie as tie

returns : tie.Need-returns-then-n-l
unfolding follower_fits
returns c = sym (and-fails _ _ (le-ltb _ _ c.if-n-l.true))

returns-3 : tie.Need-returns-then-stated-single
unfolding follower_fits
returns-3 c =
    sym (and-holds _ _ (lt-ltb _ _ c.if-n-l.false) ∙ and-holds _ _ (eq-eqb _ _ (search rules))
    ∙ and-fails _ _ (ne_eqb _ _ (λ e. c.if-stated-single.true (e ∙ sym c.single.ensures))))

partners-within-requires : tie.Need-partners_within-requires
partners-within-requires c κs =
    let passed = c in
    let start = passed in (
      search rules,
      search rules,
      not_itself width _ _ _ (omega (arith, start.requires.1)) start.requires.2 (passed.if-stated-single.false ∙ passed.single.ensures),
    )

returns-4 : tie.Need-returns-then-not-partners_within
returns-4 c =
    let passed = c in
    sym (follower-tied _ _ _ _ _ _ _ passed.if-n-l.false (search rules)
    (passed.if-stated-single.false ∙ passed.single.ensures)
    ∙ and-fails _ _ (sym c.partners_within.ensures ∙ c.if-not-partners_within.true))

trimmed-to-requires : tie.Need-trimmed_to-requires
trimmed-to-requires c κs =
    let passed = c in
    let start = passed in (
      search rules,
      search rules,
      not_itself width _ _ _ (omega (arith, start.requires.1)) start.requires.2 (passed.if-stated-single.false ∙ passed.single.ensures),
    )

returns-5 : tie.Need-returns
returns-5 c =
    let passed = c in
    c.trimmed_to.ensures
    ∙ sym (follower-tied _ _ _ _ _ _ _ passed.if-n-l.false (search rules)
    (passed.if-stated-single.false ∙ passed.single.ensures)
    ∙ and-holds _ _ (sym c.partners_within.ensures ∙ c.if-not-partners_within.false))

pub follower_sound_spec : {M : Type 1} → statement M
unfolding follower_fits
follower_sound_spec =
    tie.close
    (tie.spec
    returns
    (λ c. search rules)
    (λ c. sym (and-holds _ _ (lt-ltb _ _ c.if-n-l.false) ∙ and-fails _ _ (ne_eqb _ _ (search rules))))
    (λ c κs. search rules)
    returns-3
    (λ c. search rules)
    (λ c. search rules)
    (λ c. search rules)
    (λ c. search rules)
    partners-within-requires
    returns-4
    trimmed-to-requires
    returns-5)
