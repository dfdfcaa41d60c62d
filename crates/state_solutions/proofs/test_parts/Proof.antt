-- Each way through the call is a case of the definition: `tested-9` and the like.
use mathlib.Core.Bool.{true, false}
use mathlib.Core.List.{List}
use mathlib.Core.Path.{◌≡◌, sym, ap, ◌∙◌}
use Prim.Native.Nat.{ℕ}
use native.Mathlib.Omega.{arith}
use lib.ListN.{replicate}
use borrow.Author.Rules.{rules}
use borrow.Author.Tests.{not-true, not-false}
use Rattle.pairs.specs.Pairs.{variables}
use Rattle.head.proofs.Held.{HeadShaped, shape, held-n}
use Rattle.answers.specs.Answers.{test_told, says}
use Rattle.solutions.specs.Choices.{values_kept, pairs_kept}
use Rattle.state.specs.declared.state.State.{State}
use Rattle.state.specs.View.{state_of, sound_state}
use Rattle.state.specs.Solutions.{tested}
use Rattle.state_solutions.proofs.Solutions.{mirrored, all-free, tested-9, tested-14, tested-15, tested-outside, tested-pairs}
use Rattle.state_solutions.proofs.test_parts.Statement.{statement}
use Rattle.state_solutions.proofs.test_parts.Tie as tie

shaped : (c : tie.Start) → HeadShaped c.args.head
shaped c = search shape

abbrev state : tie.Start → State
state c = state_of c.args.head c.args.rows.now

-- Past the first test the state is sound, past the second the length is right, past the third each value is below its size.
abbrev start : tie.Else-not-sound_parts → tie.Start
start c = c.before.before.before

abbrev first : tie.Else-not-values_below → tie.Else-not-sound_parts
first c = c.before.before.before.before

is_sound : (c : tie.Else-not-sound_parts) → sound_state (state (start c)) ≡ true
is_sound c = sym c.sound_parts.ensures ∙ c.if-not-sound_parts.false

-- So what is left are the domains and the pairs.
module _ (c : tie.Else-not-values_below) where
  abbrev at : State
  at = state (start (first c))

  abbrev build : List ℕ
  build = (start (first c)).args.solution.now

  outside : values_kept at.n (replicate variables 0) at.domains build ≡ false → says false ≡ tested at build
  outside =
      tested-outside _ _ _ (all-free at (is_sound (first c)))
      (is_sound (first c)) c.if-solution-n.false (sym c.values_below.ensures ∙ c.if-not-values_below.false)

  pairs : values_kept at.n (replicate variables 0) at.domains build ≡ true
      → says (pairs_kept 32 at.n (replicate variables 0) at.stated at.rows build) ≡ tested at build
  pairs =
      tested-pairs _ _ _ (all-free at (is_sound (first c)))
      (is_sound (first c)) c.if-solution-n.false (sym c.values_below.ensures ∙ c.if-not-values_below.false)

returns : tie.Need-returns-then-not-sound_parts
unfolding test_told
returns c = tested-9 _ _ (sym c.sound_parts.ensures ∙ c.if-not-sound_parts.true)

returns-2 : tie.Need-returns-then-solution-n
unfolding test_told
returns-2 c = tested-14 _ _ (is_sound c.before) c.if-solution-n.true

values-below-requires : tie.Need-values_below-requires
values-below-requires c κs = (held-n _ _ (is_sound c.before.before), omega arith)

returns-3 : tie.Need-returns-then-not-values_below
unfolding test_told
returns-3 c =
    tested-15 _ _ (is_sound c.before.before.before.before) c.if-solution-n.false
    (sym c.values_below.ensures ∙ c.if-not-values_below.true)

values-kept-requires : tie.Need-values_kept-requires
values-kept-requires c κs =
    let e = c in
    (held-n _ _ (is_sound (first c.before.before)), omega (arith, e.if-solution-n.false))

returns-4 : tie.Need-returns-then-not-values_kept
unfolding test_told
returns-4 c = outside c.before.before.before.before (sym c.values_kept.ensures ∙ c.if-not-values_kept.true)

abbrev fourth : tie.After-pairs_kept-arg-1 → tie.Else-not-values_kept
fourth c = c.before.before

abbrev third : tie.After-pairs_kept-arg-1 → tie.Else-not-values_below
third c = (fourth c).before.before.before.before

pairs-kept-requires : tie.Need-pairs_kept-requires
pairs-kept-requires c κs =
    let e = first (third c) in
    (held-n _ _ (is_sound e), omega (arith, (third c).if-solution-n.false), mirrored (state (start e)) (shaped (start e)) (is_sound e))

-- The last test is the answer.
answer : (c : tie.After-pairs_kept) → says c.pairs_kept.result ≡ tested (at (third c.before)) (build (third c.before))
answer c =
    ap says c.pairs_kept.ensures
    ∙ pairs (third c.before)
    (sym (fourth c.before).values_kept.ensures ∙ (fourth c.before).if-not-values_kept.false)

returns-5 : tie.Need-returns-then-not-pairs_kept
unfolding test_told
returns-5 c = ap says (sym (c.if-not-pairs_kept.true)) ∙ answer c.before

returns-6 : tie.Need-returns
unfolding test_told
returns-6 c = ap says (sym (c.if-not-pairs_kept.false)) ∙ answer c.before

pub test_parts_spec : {M : Type 1} → statement M
test_parts_spec =
    tie.close
    (tie.spec
    (λ c κs. search rules)
    returns
    returns-2
    values-below-requires
    returns-3
    values-kept-requires
    returns-4
    pairs-kept-requires
    returns-5
    returns-6)
