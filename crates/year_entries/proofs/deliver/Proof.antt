-- Where it is taken its bin has a sum.
use mathlib.Core.Path.{◌≡◌, sym, ap, subst, ◌∙◌}
use Prim.Native.Nat.{◌-◌, ◌≤◌, ◌<◌}
use native.Mathlib.Omega.{arith}
use lib.ListN.{get_or}
use Rattle.head.proofs.Held.{HeadShaped, shape}
use Rattle.bins_counts.specs.Counts.{spot, plus, changed_at}
use Rattle.state.specs.declared.state.State.{State}
use Rattle.state.specs.View.{state_of}
use Rattle.state_bins.specs.Bins.{delivery_number}
use Rattle.state_bins.specs.Year.{delivery, delivered_to}
use Rattle.stock.specs.Stock.{bins_of, Sized}
use Rattle.stock.proofs.Sizes.{sound-sized, spot_in}
use Rattle.year_entries.specs.Entered.{Summed, moved}
use Rattle.year_entries.proofs.Moved.{refused_none, from_1, to_n, below_size, delivered-sum, delivery-entered}
use Rattle.year_entries.proofs.deliver.Statement.{statement}
use Rattle.year_entries.proofs.deliver.Tie as tie

abbrev state : tie.Start → State
state c = state_of c.args.head c.args.rows.now

sized : (c : tie.Start) → Sized c.args.head
sized c = let H : HeadShaped c.args.head = search shape in sound-sized c.args.head c.args.rows.now H c.requires.0

-- Past the test it is taken.
module _ (c : tie.Then-number-eq0) where
  abbrev start : tie.Start
  start = c.before.before.before

  is-0 : delivery_number (state start) (bins_of (state start) start.args.counts.now) start.args.variable start.args.value start.args.amount ≡ 0
  is-0 = sym (c.deliver_counts-number.ensures start.args.rows.now start.requires.0).number_is ∙ c.if-number-eq0.true

  from : 1 ≤ start.args.variable
  from = from_1 (state start) start.args.counts.now _ _ _ is-0

  to : start.args.variable ≤ start.args.head.n
  to = to_n (state start) start.args.counts.now _ _ _ is-0

  below : start.args.value < get_or start.args.head.sizes (start.args.variable - 1) 0
  below = below_size (state start) start.args.counts.now _ _ _ is-0

  inside : spot start.args.head.sizes (start.args.variable - 1) start.args.value < 512
  inside = spot_in start.args.head (sized start) (start.args.variable - 1) start.args.value (omega (arith, from, to)) below

deliver-counts-requires : tie.Need-deliver_counts-number-requires
deliver-counts-requires c κs = (sized c.before, c.requires.1)

sub-spot : tie.Need-overflow_sub-variable
sub-spot c = from c.before.before

spot-requires : tie.Need-spot-requires
spot-requires c κs =
    let e = c.before.before in
    (omega (arith, to e, (sized (start e)).n_most), omega (arith, below e, (sized (start e)).size_most ((start e).args.variable - 1)))

add-at-requires : tie.Need-add_at-requires
add-at-requires c κs = let l = inside c.before.before.before in omega (arith, c.spot.ensures, l)

returns : tie.Need-returns-then-number-eq0
returns c =
    let p = c in
    let e = p.before.before.before.before in
    let s = start e in
    delivery-entered (state s) s.args.counts.now _ s.args.ins.now _ _ _ _ _ (e.deliver_counts-number.ensures s.args.rows.now s.requires.0)
    (subst (Summed (state s) (moved e.deliver_counts-number.result delivered_to (delivery s.args.variable s.args.value s.args.amount)) s.args.ins.now)
    (sym (c.add_at.ensures ∙ ap (changed_at (plus s.args.amount) s.args.ins.now) p.spot.ensures))
    (delivered-sum (state s) s.args.counts.now _ _ _ (is-0 e) _ e.if-number-eq0.true s.args.ins.now (omega (arith, inside e, s.requires.2))))

returns-2 : tie.Need-returns-else-number-eq0
returns-2 c =
    let s = c.before.before.before in
    delivery-entered (state s) s.args.counts.now _ s.args.ins.now _ _ _ _ _ (c.deliver_counts-number.ensures s.args.rows.now s.requires.0)
    (refused_none (state s) _ delivered_to _ c.if-number-eq0.false s.args.ins.now)

pub deliver_spec : {M : Type 1} → statement M
deliver_spec =
    tie.close
    (tie.spec
    deliver-counts-requires
    sub-spot
    spot-requires
    add-at-requires
    returns
    returns-2)
