-- Each way through the call is a case of the definition.
use mathlib.Core.Bool.{true}
use mathlib.Core.Path.{◌≡◌, sym, ap, ◌∙◌}
use Prim.Native.Nat.{ℕ, suc, ◌-◌, ◌≤◌, ◌<◌}
use native.Mathlib.Omega.{arith}
use borrow.Author.Rules.{rules}
use borrow.Author.Tests.{not-true, not-false}
use Rattle.head.proofs.Held.{HeadShaped, shape, held-n}
use Rattle.state.specs.declared.state.State.{State}
use Rattle.state.specs.View.{state_of, sound_state}
use Rattle.answers.specs.Answers.{value_told}
use Rattle.state_solutions.specs.FollowerValue.{follower_value}
use Rattle.state_solutions.proofs.FollowerValue.{follower-9, below-10, above-10, follower-11, leader-within}
use Rattle.state_solutions.proofs.follower.follower_value_parts.Statement.{statement}
use Rattle.state_solutions.proofs.follower.follower_value_parts.Tie as tie

shaped : (c : tie.Start) → HeadShaped c.args.head
shaped c = search shape

abbrev state : tie.Start → State
state c = state_of c.args.head c.args.rows.now

-- Past the first test the state is sound,
is_sound : (c : tie.Else-not-sound_parts) → sound_state (state c.before.before) ≡ true
is_sound c = sym c.sound_parts.ensures ∙ c.if-not-sound_parts.false

returns : tie.Need-returns-then-not-sound_parts
unfolding value_told
returns c = follower-9 _ _ _ (sym c.sound_parts.ensures ∙ c.if-not-sound_parts.true)

returns-2 : tie.Need-returns-then-option-lt1
unfolding value_told
returns-2 c = below-10 _ _ _ (is_sound c.before) c.if-option-lt1.true

returns-3 : tie.Need-returns-then-head-option
unfolding value_told
returns-3 c = above-10 _ _ _ (is_sound c.before.before.before) c.if-head-option.true

-- past the third the option is one of the state: counted from 0, it is below n.
abbrev sound : tie.Else-head-option → tie.Else-not-sound_parts
sound c = c.before.before.before

abbrev start : tie.Else-head-option → tie.Start
start c = (sound c).before.before

within : (c : tie.Else-head-option) → ((start c).args.option - 1 < (start c).args.head.n) × ((start c).args.head.n ≤ 16)
within c = let h = held-n _ (start c).args.rows.now (is_sound (sound c)) in (omega (arith, c.if-head-option.false, c.if-option-lt1.false), h)

as-numbered : (c : tie.Else-head-option)
    → let a = (start c).args in follower_value (state (start c)) (suc (a.option - 1)) a.value ≡ follower_value (state (start c)) a.option a.value
as-numbered c =
    let a = (start c).args in
    let e : suc (a.option - 1) ≡ a.option = omega (arith, c.if-option-lt1.false) in
    ap (λ (o : ℕ). follower_value (state (start c)) o a.value) e

array-read-if4 : tie.Need-bounds-leaders-option
array-read-if4 c = let w = within c.before in omega (arith, w.0, w.1)

returns-4 : tie.Need-returns-then-leaders-option-eq0
unfolding value_told
returns-4 c =
    let e = c in
    follower-11 _ (is_sound (sound c.before.before)) _ (start c.before.before).args.value (within c.before.before).0 c.if-leaders-option-eq0.true ∙ as-numbered c.before.before

follower-at-requires : tie.Need-follower_at-requires
follower-at-requires c κs =
    let e = c in (
      is_sound (sound c.before.before),
      (within c.before.before).0,
      (within c.before.before).1,
      omega (arith, c.if-leaders-option-eq0.false),
      leader-within _ (shaped (start c.before.before)) (is_sound (sound c.before.before)) _,
    )

returns-5 : tie.Need-returns
returns-5 c = c.follower_at.ensures ∙ as-numbered c.before.before.before

pub follower_value_parts_spec : {M : Type 1} → statement M
follower_value_parts_spec =
    tie.close
    (tie.spec
    (λ c κs. search rules)
    returns
    returns-2
    returns-3
    array-read-if4
    returns-4
    follower-at-requires
    returns-5)
