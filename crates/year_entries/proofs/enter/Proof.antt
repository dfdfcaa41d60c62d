-- Each way out is a way that a line is answered: `faulted` or `called`.
use mathlib.Core.Path.{◌≡◌, sym, ◌∙◌}
use Prim.Native.Nat.{ℕ, ◌<◌, ◌^◌}
use native.Mathlib.Omega.{arith}
use lib.ListN.{get_or}
use Rattle.bounded.specs.Array.{Array}
use Rattle.head.proofs.Held.{shape}
use Rattle.bins.specs.Bins.{no_bin}
use Rattle.state.specs.declared.state.State.{State}
use Rattle.state.specs.View.{state_of}
use Rattle.year_entries.specs.Year.{fault_of, place_of}
use Rattle.year_entries.proofs.Moved.{entered-as}
use Rattle.year_entries.proofs.Lines.{fault_past, place-past, fault-own, place-own, is-delivery, is-call-off, faulted, called}
use borrow.Author.Rules.{rules}
use Rattle.year_entries.proofs.enter.Statement.{statement}
use Rattle.year_entries.proofs.enter.Tie as tie

abbrev state : tie.Start → State
state c = state_of c.args.head c.args.rows.now

small : (c : tie.Start) (k : ℕ) → get_or c.args.l.cells k 0 < 2 ^ 32
small c = let A : Array 17 (2 ^ 32) c.args.l.cells = search shape in A.element_lt

-- Past the second test the line is counted and has no fault.
module _ (c : tie.Else-l-ne0) where
  abbrev start : tie.Start
  start = c.before.before.before

  no_fault : fault_of start.args.line start.args.l ≡ 0
  no_fault = fault-own start.args.line start.args.l c.if-line-gt4294967295.false ∙ c.if-l-ne0.false

  its_place : place_of start.args.line start.args.l ≡ start.args.l.place
  its_place = place-own start.args.line start.args.l c.if-line-gt4294967295.false

returns : tie.Need-returns-then-line-gt4294967295
returns c =
    let s = c.before.before in
    let past = c.if-line-gt4294967295.true in
    faulted (state s) s.args.line s.args.l (small c.before.before) c.fault_answer.result 108 1 (fault_past _ _ past) (place-past _ _ past) (λ z. omega (arith, z)) c.fault_answer.ensures
    s.args.counts.now s.args.ins.now s.args.outs.now

returns-2 : tie.Need-returns-then-l-ne0
returns-2 c =
    let e = c in
    let s = e.before.before.before.before in
    faulted (state s) s.args.line s.args.l (small c.before.before.before.before) c.fault_answer-then-l-ne0.result s.args.l.fault s.args.l.place (fault-own _ _ e.if-line-gt4294967295.false) (place-own _ _ e.if-line-gt4294967295.false) c.if-l-ne0.true
    c.fault_answer-then-l-ne0.ensures s.args.counts.now s.args.ins.now s.args.outs.now

cast-deliver : tie.Need-overflow_cast-cells
cast-deliver c = let l = small c.before.before.before.before.before.before.before.before 0 in search rules

cast-deliver-2 : tie.Need-overflow_cast-cells-then-l-eq1
cast-deliver-2 c = let l = small c.before.before.before.before.before.before.before.before 1 in search rules

returns-3 : tie.Need-returns-then-l-eq1
returns-3 c =
    let n = c in
    let d = n in
    let t = d in
    let e = t.before.before.before.before.before.before.before.before in
    let s = start e in
    called (state s) s.args.line s.args.l (small s) c.call_answer.result s.args.l.place (no_fault e) (its_place e) d.deliver-number.result no_bin
    (c.call_answer.ensures ∙ (λ i. record { fault = 0; place = s.args.l.place; number = d.deliver-number.result; low = n.no_bin.ensures i }))
    s.args.counts.now _ s.args.ins.now _ s.args.outs.now s.args.outs.now (entered-as (sym (is-delivery s.args.l t.if-l-eq1.true)) (d.deliver-number.ensures s.args.outs.now))

returns-4 : tie.Need-returns
returns-4 c =
    let d = c in
    let t = d in
    let e = t.before.before.before.before.before.before.before.before in
    let s = start e in
    called (state s) s.args.line s.args.l (small s) c.call_answer-2.result s.args.l.place (no_fault e) (its_place e) d.call_off_line-drawn.result.number d.call_off_line-drawn.result.low
    c.call_answer-2.ensures s.args.counts.now _ s.args.ins.now s.args.ins.now s.args.outs.now _
    (entered-as (sym (is-call-off s.args.l t.if-l-eq1.false)) (d.call_off_line-drawn.ensures s.args.ins.now))

pub enter_spec : {M : Type 1} → statement M
enter_spec =
    tie.close
    (tie.spec
    (λ c κs. search rules)
    returns
    (λ c κs. search rules)
    returns-2
    (λ c. search rules)
    cast-deliver
    (λ c. search rules)
    cast-deliver-2
    (λ c. search rules)
    (λ c κs. search rules)
    (λ c κs. search rules)
    (λ c κs. search rules)
    returns-3
    (λ c κs. search rules)
    (λ c κs. search rules)
    returns-4)
