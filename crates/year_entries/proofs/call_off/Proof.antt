-- Where it is taken each of its bins has a sum.
use mathlib.Core.List.{List}
use mathlib.Core.Path.{◌≡◌, sym, subst, ◌∙◌}
use Prim.Native.Nat.{ℕ, ◌<◌}
use native.Mathlib.Omega.{arith}
use lib.ListN.{get_or, take}
use lib.Seq.{get_or-take}
use Rattle.head.proofs.Held.{HeadShaped, shape}
use Rattle.bins_counts.specs.Counts.{spot}
use Rattle.state.specs.declared.state.State.{State}
use Rattle.state.specs.View.{state_of}
use Rattle.state_bins.specs.Year.{call_off, called_off_from}
use Rattle.stock.specs.Stock.{Sized}
use Rattle.stock.proofs.Sizes.{sound-sized, spot_in}
use Rattle.stock.proofs.CallOff.{value_in}
use Rattle.year_entries.specs.Entered.{Summed, moved}
use Rattle.year_entries.proofs.Moved.{refused_none, drawn-sum, call-off-entered, taken-solves}
use borrow.Author.Rules.{rules}
use Rattle.year_entries.proofs.call_off.Statement.{statement}
use Rattle.year_entries.proofs.call_off.Tie as tie

abbrev state : tie.Start → State
state c = state_of c.args.head c.args.rows.now

sized : (c : tie.Start) → Sized c.args.head
sized c = let H : HeadShaped c.args.head = search shape in sound-sized c.args.head c.args.rows.now H c.requires.0

-- Past the test it is taken, and its values are those of a solution.
module _ (c : tie.Then-drawn-eq0) where
  abbrev start : tie.Start
  start = c.before.before.before.before

  abbrev values : List ℕ
  values = start.args.values

  abbrev solution : List ℕ
  solution = take start.args.head.n values

  agree : (o : ℕ) → o < start.args.head.n → get_or solution o 0 ≡ get_or values o 0
  agree o l = get_or-take start.args.head.n values o 0 l

  below : (o : ℕ) → o < start.args.head.n → get_or values o 0 < get_or start.args.head.sizes o 0
  below o l =
      value_in (state start) start.requires.0 start.args.counts.now solution start.args.amount values agree
      (taken-solves (state start) start.args.counts.now solution start.args.amount (sym c.call_off_counts-drawn.ensures.number_is ∙ c.if-drawn-eq0.true)) o l

  inside : (o : ℕ) → o < start.args.head.n → spot start.args.head.sizes o (get_or values o 0) < 512
  inside o l = spot_in start.args.head (sized start) o (get_or values o 0) l (below o l)

add-each-requires : tie.Need-add_each-requires
add-each-requires c κs = let e = c.before.before in ((sized (start e)).n_most, inside e)

returns : tie.Need-returns-then-drawn-eq0
returns c =
    let e = c.before.before.before in
    let s = start e in
    call-off-entered (state s) s.args.counts.now _ s.args.outs.now _ (solution e) s.args.amount _ _ e.call_off_counts-drawn.ensures
    (subst (Summed (state s) (moved e.call_off_counts-drawn.result.number called_off_from (call_off (solution e) s.args.amount)) s.args.outs.now) (sym c.add_each.ensures)
    (drawn-sum (state s) (solution e) (values e) s.args.amount (agree e) (below e) _ e.if-drawn-eq0.true s.args.outs.now (λ k l. omega (arith, inside e k l, s.requires.2))))

returns-2 : tie.Need-returns-else-drawn-eq0
returns-2 c =
    let s = c.before.before.before.before in
    call-off-entered (state s) s.args.counts.now _ s.args.outs.now _ _ s.args.amount _ _ c.call_off_counts-drawn.ensures
    (refused_none (state s) _ called_off_from _ c.if-drawn-eq0.false s.args.outs.now)

pub call_off_spec : {M : Type 1} → statement M
call_off_spec =
    tie.close
    (tie.spec
    (λ c κs. search rules)
    add-each-requires
    returns
    returns-2)
