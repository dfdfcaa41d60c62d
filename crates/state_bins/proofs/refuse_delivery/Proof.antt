-- Past the first test the state is sound, and so its sizes are at most sixteen.
use mathlib.Core.Path.{◌≡◌, sym, ap, ◌∙◌}
use Prim.Native.Nat.{◌<◌, ◌≤◌}
use native.Mathlib.Omega.{arith}
use borrow.Author.Tests.{le-ltb, lt-ltb, le-leb, lt-leb}
use Rattle.bounded.proofs.Bool.{if-true, if-false, and-fails, and_i, and-false, not-i, not-false-i}
use Rattle.bounded.specs.Bool.{and}
use mathlib.Core.Bool.{true}
use Rattle.head.proofs.Held.{held-n}
use Rattle.state.specs.View.{state_of, sound_state}
use Rattle.state_bins.specs.Bins.{has_value}
use Rattle.state_bins.specs.Asked.{delivery_refusal}
use borrow.Author.Rules.{rules}
use Rattle.state_bins.proofs.refuse_delivery.Statement.{statement}
use Rattle.state_bins.proofs.refuse_delivery.Tie as tie

is_sound : (c : tie.Else-not-sound_parts) → sound_state (state_of c.args.head c.args.rows.now) ≡ true
is_sound c = sym c.sound_parts.ensures ∙ c.if-not-sound_parts.false

returns : tie.Need-returns-then-not-sound_parts
unfolding delivery_refusal
returns c = sym (if-true _ _ _ (not-i _ (sym c.sound_parts.ensures ∙ c.if-not-sound_parts.true)))

returns-2 : tie.Need-returns-then-variable-lt1
unfolding delivery_refusal has_value
returns-2 c =
    let z : c.args.variable ≤ 0 = omega (arith, c.if-variable-lt1.true) in
    sym (if-false _ _ _ (not-false-i _ (is_sound c.before)) ∙ if-false _ _ _ (and-fails _ _ (and-fails _ _ (le-ltb _ _ z))))

returns-3 : tie.Need-returns-then-n-variable
unfolding delivery_refusal has_value
returns-3 c = sym (if-false _ _ _ (not-false-i _ (is_sound c.before.before)) ∙ if-false _ _ _ (and-fails _ _ (ap (and _) (lt-leb _ _ c.if-n-variable.true) ∙ and-false _)))

array-read-size : tie.Need-bounds-sizes-variable
array-read-size c = let b = held-n _ _ (is_sound c.before.before.before) in omega (arith, b, c.if-n-variable.false, c.if-variable-lt1.false)

returns-4 : tie.Need-returns-then-value-size
unfolding delivery_refusal has_value
returns-4 c =
    let n = c in
    let t = n in
    let l : 0 < t.args.variable = omega (arith, n.if-variable-lt1.false) in
    sym (if-false _ _ _ (not-false-i _ (is_sound c.before.before.before.before))
    ∙ if-true _ _ _ (and_i _ _ (and_i _ _ (lt-ltb _ _ l) (le-leb _ _ n.if-n-variable.false)) (lt-ltb _ _ c.if-value-size.true)))

returns-5 : tie.Need-returns
unfolding delivery_refusal has_value
returns-5 c = sym (if-false _ _ _ (not-false-i _ (is_sound c.before.before.before.before)) ∙ if-false _ _ _ (ap (and _) (le-ltb _ _ c.if-value-size.false) ∙ and-false _))

pub refuse_delivery_spec : {M : Type 1} → statement M
refuse_delivery_spec =
    tie.close
    (tie.spec
    (λ c κs. search rules)
    returns
    returns-2
    returns-3
    array-read-size
    (λ c. search rules)
    returns-4
    returns-5)
