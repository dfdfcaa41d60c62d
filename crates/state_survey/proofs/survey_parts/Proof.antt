-- 9 of a state that is not sound, then 23 by the product, nothing where the product is 0, and else what is surveyed.
use mathlib.Core.Bool.{true}
use mathlib.Core.Path.{◌≡◌, sym, ◌∙◌}
use Prim.Native.Nat.{◌≤◌}
use native.Mathlib.Omega.{arith}
use borrow.Author.Rules.{rules}
use borrow.Author.Tests.{not-true, not-false}
use Rattle.network.specs.Sound.{Sound}
use Rattle.network.specs.Survey.{tied_product}
use Rattle.head.specs.Held.{held, sound_in}
use Rattle.head.proofs.Held.{HeadShaped, shape, held-sound, held-n}
use Rattle.survey_product.proofs.Ties.{product-refused, product-accepted, below-cap}
use Rattle.state.specs.View.{state_of}
use Rattle.state_survey.specs.Survey.{survey_told, survey_number}
use Rattle.state_survey.proofs.Told.{survey-unsound, survey-own, survey-refuses, told-empty, told_of}
use Rattle.state_survey.proofs.survey_parts.Statement.{statement}
use Rattle.state_survey.proofs.survey_parts.Tie as tie

returns : tie.Need-returns-then-not-sound_parts
unfolding survey_told
returns c =
    let e = c in
    sym (survey-refuses _ 9 (survey-unsound _ (sym e.sound_parts.ensures ∙ e.if-not-sound_parts.true)) (omega arith))

-- Past the first test the state is sound,
is_sound : (c : tie.Else-not-sound_parts) → let s = c.args in sound_in s.head s.rows.now ≡ true
is_sound c = sym c.sound_parts.ensures ∙ c.if-not-sound_parts.false

network-sound : (c : tie.Else-not-sound_parts) → let s = c.args in Sound (held s.head s.rows.now)
network-sound c = let h : HeadShaped c.args.head = search shape in held-sound _ _ h (is_sound c)

tied-product-requires : tie.Need-tied_product-choices-requires
tied-product-requires c κs = held-n _ _ (is_sound c)

returns-2 : tie.Need-returns-then-choices-gt-MOST_CHOICES
unfolding survey_told
returns-2 c =
    let p = c in
    let t = is_sound c.before.before in
    sym (survey-refuses _ 23 (survey-own _ t ∙ product-refused _ _ (p.tied_product-choices.ensures _ t) c.if-choices-gt-MOST_CHOICES.true) (omega arith))

-- and past the second nothing refuses: the product is what was computed.
accepts : (c : tie.Else-choices-gt-MOST_CHOICES) → let s = c.args in survey_number (state_of s.head s.rows.now) ≡ 0
accepts c =
    let t = is_sound c.before.before in
    survey-own _ t ∙ product-accepted _ _ (c.tied_product-choices.ensures _ t) (omega (arith, c.if-choices-gt-MOST_CHOICES.false))

product_is : (c : tie.Else-choices-gt-MOST_CHOICES) → let s = c.args in
    (tied_product (held s.head s.rows.now) ≡ c.tied_product-choices.result) × (c.tied_product-choices.result ≤ 1000000)
product_is c =
    let t = is_sound c.before.before in
    let l : c.tied_product-choices.result ≤ 1000000 = omega (arith, c.if-choices-gt-MOST_CHOICES.false) in
    (below-cap _ _ (c.tied_product-choices.ensures _ t) l, l)

returns-3 : tie.Need-returns-then-choices-eq0
unfolding survey_told
returns-3 c =
    let e = c in
    sym (told-empty _ (network-sound c.before.before.before) (accepts c.before) ((product_is c.before).0 ∙ c.if-choices-eq0.true))

survey-sound-requires : tie.Need-survey_sound-requires
survey-sound-requires c κs =
    let e = c in
    let p = product_is c.before in
    (is_sound c.before.before.before, omega (arith, p.0, c.if-choices-eq0.false), omega (arith, p.0, p.1))

returns-4 : tie.Need-returns
unfolding survey_told
returns-4 c =
    let e = c in
    told_of _ (network-sound c.before.before.before.before) (accepts c.before.before) _ c.survey_sound.ensures

pub survey_parts_spec : {M : Type 1} → statement M
survey_parts_spec =
    tie.close
    (tie.spec
    (λ c κs. search rules)
    returns
    tied-product-requires
    returns-2
    returns-3
    survey-sound-requires
    returns-4)
