-- A wrong number of values, and a value that no size has, are no solution; else the bytes are the solution.
use mathlib.Core.Bool.{false}
use mathlib.Core.List.{List}
use mathlib.Core.Path.{◌≡◌, sym, ap, ◌∙◌}
use Prim.Native.Nat.{ℕ, ◌+◌}
use native.Mathlib.Omega.{arith}
use lib.ListN.{length, get_or}
use borrow.Author.Tests.{ltb-true}
use Rattle.bounded.proofs.Fold.{every-e}
use Rattle.head.proofs.Held.{HeadShaped, shape}
use Rattle.bins.specs.declared.Bin.{Bin}
use Rattle.bins.specs.Bins.{no_bin}
use Rattle.answers.specs.Answers.{test_agrees}
use Rattle.state.specs.declared.state.State.{State}
use Rattle.state.specs.View.{state_of}
use Rattle.state.specs.Solutions.{tested}
use Rattle.state_bins.specs.Year.{call_off, called_off_from}
use Rattle.stock.specs.Stock.{Sized}
use Rattle.stock.proofs.Sizes.{sound-sized}
use Rattle.stock.proofs.CallOff.{called-as, no-solution}
use Rattle.year_entries.specs.Entered.{Entered}
use Rattle.year_entries.proofs.Moved.{refused_none, call-off-entered, entered-as}
use Rattle.year_entries.proofs.Values.{solution_of, wrong-count, wrong-value, bytes_are}
use borrow.Author.Rules.{rules}
use Rattle.year_entries.proofs.call_off_line.Statement.{statement}
use Rattle.year_entries.proofs.call_off_line.Tie as tie

abbrev state : tie.Start → State
state c = state_of c.args.head c.args.rows.now

shaped : (c : tie.Start) → HeadShaped c.args.head
shaped c = search shape

sized : (c : tie.Start) → Sized c.args.head
sized c = sound-sized c.args.head c.args.rows.now (shaped c) c.requires.0

abbrev solution : tie.Start → List ℕ
solution c = solution_of c.args.count c.args.cells

-- A line that names no solution.
none : (c : tie.Start) → test_agrees (tested (state c) (solution c)) ≡ false → (low : Bin) → low ≡ no_bin → (ins : List ℕ)
    → Entered (state c) (call_off (solution c) (get_or c.args.cells 0 0)) c.args.counts.now c.args.counts.now ins ins c.args.outs.now c.args.outs.now 28 low
none c h low e =
    call-off-entered (state c) c.args.counts.now c.args.counts.now c.args.outs.now c.args.outs.now (solution c) (get_or c.args.cells 0 0) 28 low
    (called-as (λ i. c.args.counts.now) e (no-solution (state c) c.requires.0 c.args.counts.now (solution c) (get_or c.args.cells 0 0) h))
    (refused_none (state c) 28 called_off_from _ (λ z. omega (arith, z)) c.args.outs.now)

many : (c : tie.Else-value_count-n) → length (solution c.before.before) ≡ c.args.head.n
many c = sym c.value_count.ensures ∙ c.if-value_count-n.false

returns : tie.Need-returns-then-value_count-n
returns c =
    let v = c in
    let s = v.before.before.before in
    none c.before.before.before (wrong-count s.args.count s.args.cells (state s) s.requires.0 (shaped c.before.before.before) (λ e. c.if-value_count-n.true (v.value_count.ensures ∙ e))) _ c.no_bin.ensures

values-below-requires : tie.Need-values_below-requires
values-below-requires c κs = (sized c.before.before.before).n_most

returns-2 : tie.Need-returns-then-not-values_below
returns-2 c =
    let b = c in
    let e = b in
    let s = e.before.before.before.before.before.before in
    none c.before.before.before.before.before.before (wrong-value s.args.count s.args.cells (state s) s.requires.0 (many c.before.before.before.before) (sym b.values_below.ensures ∙ c.if-not-values_below.true)) _ c.no_bin-then-not-values_below.ensures

value-bytes-requires : tie.Need-value_bytes-values-requires
value-bytes-requires c κs =
    let b = c in
    let s = b in (
      (sized c.before.before.before.before.before).n_most,
      λ o l. let m = ltb-true (get_or s.args.cells (o + 1) 0) (get_or s.args.head.sizes o 0) (every-e s.args.head.n _ (sym b.values_below.ensures ∙ c.if-not-values_below.false) o l) in
          omega (arith, m, (sized c.before.before.before.before.before).size_most o),
    )

returns-3 : tie.Need-returns
returns-3 c = λ ins.
    let v = c in
    let e = v in
    let s = e in
    let z : length v.value_bytes-values.result ≡ 16 = search rules in
    entered-as (ap (λ (x : List ℕ). call_off x (get_or s.args.cells 0 0))
    (bytes_are s.args.count s.args.cells s.args.head.n v.value_bytes-values.result (omega (arith, z, (sized c.before.before.before.before.before.before.before.before.before).n_most)) (many c.before.before.before.before.before.before.before) v.value_bytes-values.ensures))
    (c.call_off.ensures ins)

pub call_off_line_spec : {M : Type 1} → statement M
call_off_line_spec =
    tie.close
    (tie.spec
    (λ c κs. search rules)
    (λ c κs. search rules)
    returns
    values-below-requires
    (λ c κs. search rules)
    returns-2
    value-bytes-requires
    (λ c. search rules)
    (λ c κs. search rules)
    returns-3)
