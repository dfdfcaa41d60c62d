-- Each way out is a case of the definition: `no-solution`, `too-low`, `taken`.
use mathlib.Core.Bool.{true}
use mathlib.Core.List.{List}
use mathlib.Core.Path.{◌≡◌, refl, sym, ap, ◌∙◌}
use Prim.Native.Nat.{ℕ, ◌≤◌, ◌<◌}
use native.Mathlib.Numerals.{add-one}
use native.Mathlib.Omega.{arith}
use lib.ListN.{length, get_or, take}
use lib.Seq.{get_or-take, length-take-le}
use borrow.Author.Tests.{not-true, not-false}
use Rattle.head.proofs.Held.{HeadShaped, shape, held-n}
use Rattle.bins_counts.specs.Counts.{bin_of_place, spot}
use Rattle.answers.specs.Answers.{test_agrees}
use Rattle.state.specs.declared.state.State.{State}
use Rattle.state.specs.View.{state_of}
use Rattle.state.specs.Solutions.{tested}
use Rattle.stock.specs.Stock.{Sized}
use Rattle.stock.proofs.Sizes.{sound-sized, spot_in}
use Rattle.stock.proofs.CallOff.{called-as, no-solution, value_in, too-low, taken}
use borrow.Author.Rules.{rules}
use Rattle.stock.proofs.call_off_counts.Statement.{statement}
use Rattle.stock.proofs.call_off_counts.Tie as tie

n_most : (c : tie.Start) → c.args.head.n ≤ 16
n_most c = held-n c.args.head c.args.rows.now c.requires.0

sized : (c : tie.Start) → Sized c.args.head
sized c = let H : HeadShaped c.args.head = search shape in sound-sized c.args.head c.args.rows.now H c.requires.0

-- Past the first test they are the values of a solution.
module _ (c : tie.Else-not-test_agrees) where
  abbrev start : tie.Start
  start = c.before.before.before.before

  abbrev state : State
  state = state_of start.args.head start.args.rows.now

  abbrev values : List ℕ
  values = start.args.values

  agree : (o : ℕ) → o < state.n → get_or (take state.n values) o 0 ≡ get_or values o 0
  agree o l = get_or-take state.n values o 0 l

  is-solution : test_agrees (tested state (take state.n values)) ≡ true
  is-solution = sym (c.test_agrees.ensures ∙ ap test_agrees c.test_parts-answer.ensures) ∙ c.if-not-test_agrees.false

  inside : (o : ℕ) → o < state.n → spot state.sizes o (get_or values o 0) < 512
  inside o l = spot_in start.args.head (sized start) o (get_or values o 0) l (value_in state start.requires.0 start.args.counts.now (take state.n values) start.args.amount values agree is-solution o l)

array-share-prefix-values : tie.Need-slice_bounds-values-end
array-share-prefix-values c = let l : length c.args.values ≡ 16 = search rules in omega (arith, n_most c)

slice-aggregate-test-parts : tie.Need-slice_bounds-test_parts-end
slice-aggregate-test-parts c =
    let s = c in
    let l : length s.args.values ≡ 16 = search rules in
    sym (length-take-le s.args.head.n s.args.values (omega (arith, n_most c.before)))

returns : tie.Need-returns-then-not-test_agrees
returns c =
    let s = c in
    let a = s.args in
    called-as refl c.no_bin.ensures
    (no-solution _ s.requires.0 _ _ _
    (sym (c.test_agrees.ensures ∙ ap test_agrees c.test_parts-answer.ensures) ∙ c.if-not-test_agrees.true))

lowest-requires : tie.Need-lowest-o-requires
lowest-requires c κs = let e = c.before in (n_most (start e), inside e)

bin-of-requires : tie.Need-bin_of-requires
bin-of-requires c κs =
    let l = c in
    let e = l.before.before.before in
    (omega (arith, n_most (start e), c.if-o-n.true), inside e l.lowest-o.result c.if-o-n.true)

returns-2 : tie.Need-returns-then-o-n
returns-2 c =
    let l = c in
    let e = l.before.before.before.before in
    let a = (start e).args in
    called-as refl
    (c.bin_of.ensures ∙ ap (λ (k : ℕ). bin_of_place (k, get_or (values e) l.lowest-o.result 0) (get_or a.counts.now (spot (state e).sizes l.lowest-o.result (get_or (values e) l.lowest-o.result 0)) 0)) (add-one l.lowest-o.result))
    (too-low (state e) (start e).requires.0 a.counts.now (take (state e).n (values e)) a.amount (values e) (agree e) (is-solution e) l.lowest-o.result l.lowest-o.ensures c.if-o-n.true)

draw-requires : tie.Need-draw-requires
draw-requires c κs = let e = c.before.before.before.before in (n_most (start e), inside e)

returns-3 : tie.Need-returns
returns-3 c =
    let d = c in
    let l = d in
    let e = l.before.before.before.before.before.before in
    let a = (start e).args in
    called-as d.draw.ensures c.no_bin-2.ensures
    (taken (state e) (start e).requires.0 a.counts.now (take (state e).n (values e)) a.amount (values e) (agree e) (is-solution e) l.lowest-o.result l.lowest-o.ensures
    d.if-o-n.false (λ k m. omega (arith, inside e k m, (start e).requires.1)))

pub call_off_counts_spec : {M : Type 1} → statement M
call_off_counts_spec =
    tie.close
    (tie.spec
    array-share-prefix-values
    slice-aggregate-test-parts
    (λ c κs. search rules)
    (λ c κs. search rules)
    (λ c κs. search rules)
    returns
    lowest-requires
    bin-of-requires
    returns-2
    draw-requires
    (λ c κs. search rules)
    returns-3)
