-- Each way out is a case of the definition: `no_value`, `too_many`, `taken`.
use mathlib.Core.Bool.{true}
use mathlib.Core.List.{List, []}
use mathlib.Core.Path.{◌≡◌, sym, subst, ◌∙◌}
use Prim.Native.Nat.{ℕ, ◌+◌, ◌-◌, ◌<◌, ◌≤◌, ◌^◌}
use native.Mathlib.Omega.{arith}
use lib.ListN.{length, get_or, set}
use borrow.Author.Tests.{not-true, not-false, le-leb, lt-leb}
use Rattle.head.specs.declared.Head.{Head}
use Rattle.bins.proofs.Shape.{within, beyond}
use Rattle.bins_counts.specs.Counts.{spot, changed_at}
use Rattle.state.specs.View.{state_of}
use Rattle.state_bins.specs.Bins.{has_value}
use Rattle.stock.specs.Stock.{CountsDelivered}
use Rattle.stock.proofs.Sizes.{spot_in, value-from, value-to, value-below}
use Rattle.stock.proofs.Delivery.{no_value, too_many, taken}
use borrow.Author.Rules.{rules}
use Rattle.stock.proofs.deliver_counts.Statement.{statement}
use Rattle.stock.proofs.deliver_counts.Tie as tie

-- Past the first test it is a value of the head, whose index lies in the array.
module _ (c : tie.Else-not-has_value) where
  abbrev start : tie.Start
  start = c.before.before

  abbrev head : Head
  head = start.args.head

  is-value : (rows : List ℕ) → has_value (state_of head rows) start.args.variable start.args.value ≡ true
  is-value rows = sym (c.has_value.ensures rows) ∙ c.if-not-has_value.false

  from : 1 ≤ start.args.variable
  from = value-from (state_of head []) _ _ (is-value [])

  to : start.args.variable ≤ head.n
  to = value-to (state_of head []) _ _ (is-value [])

  below : start.args.value < get_or head.sizes (start.args.variable - 1) 0
  below = value-below (state_of head []) _ _ (is-value [])

  inside : spot head.sizes (start.args.variable - 1) start.args.value < 512
  inside = spot_in head start.requires.0 (start.args.variable - 1) start.args.value (omega (arith, from, to)) below

at-array : (c : tie.After-spot-at) → c.spot-at.result < 512
at-array c = omega (arith, c.spot-at.ensures, inside c.before.before)

returns : tie.Need-returns-then-not-has_value
returns c = λ rows t. no_value _ t _ _ _ _ (sym (c.has_value.ensures rows) ∙ c.if-not-has_value.true)

sub-spot : tie.Need-overflow_sub-variable
sub-spot c = from c.before

spot-requires : tie.Need-spot-at-requires
spot-requires c κs =
    let e = c.before in
    (omega (arith, to e, (start e).requires.0.n_most), omega (arith, below e, (start e).requires.0.size_most ((start e).args.variable - 1)))

mul-count : tie.Need-offset_bounds-counts-at
mul-count c = let l = at-array c in search rules

element-copy-out-count : tie.Need-bounds-counts-at
element-copy-out-count c = at-array c.before

returns-2 : tie.Need-returns-then-amount-count
returns-2 c = λ rows t.
    let p = c in
    let e = p.before.before.before.before.before in
    let a = (start e).args in
    too_many _ t _ _ _ _ (is-value e rows)
    (le-leb _ _ (subst (λ (k : ℕ). 2 ^ 32 ≤ get_or a.counts.now k 0 + a.amount) p.spot-at.ensures (beyond a.amount _ (search rules) c.if-amount-count.true)))

mul-counts : tie.Need-offset_bounds-counts-at-2
mul-counts c = let l = at-array c.before.before.before in search rules

element-write-counts : tie.Need-bounds-counts-at-2
element-write-counts c = at-array c.before.before.before

returns-3 : tie.Need-returns
unfolding changed_at
returns-3 c = λ rows t.
    let p = c in
    let e = p.before.before.before.before.before in
    let a = (start e).args in
    subst (λ (k : ℕ). CountsDelivered (state_of a.head rows) a.counts.now (set a.counts.now k (get_or a.counts.now k 0 + a.amount)) a.variable a.value a.amount 0)
    (sym p.spot-at.ensures)
    (taken _ t _ _ _ _ (is-value e rows) (omega (arith, inside e, (start e).requires.1))
    (lt-leb _ _ (subst (λ (k : ℕ). get_or a.counts.now k 0 + a.amount < 2 ^ 32) p.spot-at.ensures (within a.amount _ (search rules) c.if-amount-count.false))))

pub deliver_counts_spec : {M : Type 1} → statement M
deliver_counts_spec =
    tie.close
    (tie.spec
    (λ c κs. search rules)
    returns
    sub-spot
    spot-requires
    mul-count
    element-copy-out-count
    (λ c. search rules)
    returns-2
    (λ c. search rules)
    mul-counts
    element-write-counts
    returns-3)
