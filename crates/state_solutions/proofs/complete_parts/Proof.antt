-- Each way through the call is a case of the definition: `complete-9` and the like.
use mathlib.Core.Bool.{true}
use mathlib.Core.List.{List}
use mathlib.Core.Path.{◌≡◌, sym, ◌∙◌}
use Prim.Native.Nat.{ℕ}
use native.Mathlib.Omega.{arith}
use lib.ListN.{length}
use borrow.Author.Rules.{rules}
use borrow.Author.Tests.{not-true, not-false}
use Rattle.head.proofs.Held.{HeadShaped, shape, held-n}
use Rattle.answers.specs.Answers.{outcome_number}
use Rattle.solutions.specs.Choices.{values_kept, pairs_kept}
use Rattle.state.specs.declared.state.State.{State}
use Rattle.state.specs.View.{state_of, sound_state}
use Rattle.state_solutions.proofs.Solutions.{mirrored, complete-9, complete-14, complete-15, complete-16, complete-led, complete-done}
use Rattle.state_solutions.proofs.complete_parts.Statement.{statement}
use Rattle.state_solutions.proofs.complete_parts.Tie as tie

shaped : (c : tie.Start) → HeadShaped c.args.head
shaped c = search shape

abbrev state : tie.Start → State
state c = state_of c.args.head c.args.rows.now

-- Past the first test the state is sound,
abbrev start : tie.Else-not-sound_parts → tie.Start
start c = c.before.before.before

is_sound : (c : tie.Else-not-sound_parts) → sound_state (state (start c)) ≡ true
is_sound c = sym c.sound_parts.ensures ∙ c.if-not-sound_parts.false

-- past the second the length is right, past the third each free value is in its domain,
abbrev second : tie.After-values_kept → tie.Else-n-solution
second c = c.before.before.before

abbrev first : tie.Else-not-values_kept → tie.Else-not-sound_parts
first c = (second c.before).before

module _ (c : tie.Else-not-values_kept) where
  abbrev at : State
  at = state (start (first c))

  abbrev build : List ℕ
  build = (start (first c)).args.solution.now

  is-long : length build ≡ at.n
  is-long = sym (second c.before).if-n-solution.false

  kept : values_kept at.n at.leaders at.domains build ≡ true
  kept = sym c.values_kept.ensures ∙ c.if-not-values_kept.false

-- past the fourth each stated pair of free variables allows its values.
abbrev third : tie.After-pairs_kept → tie.Else-not-values_kept
third c = c.before.before.before

allowed : (c : tie.Else-not-pairs_kept) → let e = third c.before in pairs_kept 32 (at e).n (at e).leaders (at e).stated (at e).rows (build e) ≡ true
allowed c = sym c.pairs_kept.ensures ∙ c.if-not-pairs_kept.false

returns : tie.Need-returns-then-not-sound_parts
unfolding outcome_number
returns c = complete-9 _ _ (sym c.sound_parts.ensures ∙ c.if-not-sound_parts.true)

returns-2 : tie.Need-returns-then-n-solution
unfolding outcome_number
returns-2 c = complete-14 _ _ (is_sound c.before) (λ e. c.if-n-solution.true (sym e))

values-kept-requires : tie.Need-values_kept-requires
values-kept-requires c κs =
    let e = c in
    (held-n _ _ (is_sound c.before.before.before), omega (arith, e.if-n-solution.false))

returns-3 : tie.Need-returns-then-not-values_kept
unfolding outcome_number
returns-3 c =
    complete-15 _ _ (is_sound (second c.before).before) (sym (second c.before).if-n-solution.false)
    (sym c.values_kept.ensures ∙ c.if-not-values_kept.true)

pairs-kept-requires : tie.Need-pairs_kept-requires
pairs-kept-requires c κs =
    let e = c.before.before in
    (held-n _ _ (is_sound (first c.before.before)), omega (arith, is-long e), mirrored (at e) (shaped (start (first c.before.before))) (is_sound (first c.before.before)))

returns-4 : tie.Need-returns-then-not-pairs_kept
unfolding outcome_number
returns-4 c =
    complete-16 _ _ (is_sound (first (third c.before))) (is-long (third c.before)) (kept (third c.before))
    (sym c.pairs_kept.ensures ∙ c.if-not-pairs_kept.true)

complete-values-requires : tie.Need-complete_values-requires
complete-values-requires c κs =
    let e = third c.before.before.before.before in
    complete-led _ (shaped (start (first e))) (is_sound (first e)) _ (is-long e) (kept e)

returns-5 : tie.Need-returns
unfolding outcome_number
returns-5 c =
    let v = c in
    let f = v in
    let e = third c.before.before.before.before.before.before.before in
    complete-done _ (shaped (start (first e))) (is_sound (first e)) _ (is-long e) (kept e) _ (allowed c.before.before.before.before.before.before) v.complete_values.ensures

pub complete_parts_spec : {M : Type 1} → statement M
complete_parts_spec =
    tie.close
    (tie.spec
    (λ c κs. search rules)
    returns
    returns-2
    values-kept-requires
    (λ c. search rules)
    returns-3
    pairs-kept-requires
    (λ c. search rules)
    returns-4
    complete-values-requires
    (λ c. search rules)
    returns-5)
