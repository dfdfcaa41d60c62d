-- Each return is one case of `number_found`: 9, 27, 28, 29 and 0, in this order.
use mathlib.Core.Bool.{true, false}
use mathlib.Core.Path.{◌≡◌}
use Prim.Native.Nat.{◌<◌, ◌≤◌}
use native.Mathlib.Omega.{arith}
use borrow.Author.Rules.{rules}
use borrow.Author.Tests.{le-leb, lt-leb, eq-eqb, ne_eqb}
use Rattle.bounded.specs.Bool.{and, or, not, if}
use Rattle.bins.specs.Plans.{number_found, settled_of}
use Rattle.bins.proofs.settled.Statement.{statement}
use Rattle.bins.proofs.settled.Tie as tie

pub settled_spec : {M : Type 1} → statement M
unfolding settled_of number_found if and or not
settled_spec =
    tie.close
    (tie.spec
    (λ c.
    let nine : c.args.p.refusal ≡ 9 = omega arith in
    simp (eq-eqb _ _ nine))
    (λ c.
    let other : c.args.p.refusal ≡ 9 → ⊥ = λ e. let x : ⊥ = omega arith in x in
    let exact : c.args.s.exact ≡ true = search rules in
    let before : c.args.s.variable < c.args.p.n = omega arith in
    simp (ne_eqb _ _ other, exact, lt-leb _ _ before))
    (λ c.
    let other : c.args.p.refusal ≡ 9 → ⊥ = λ e. let x : ⊥ = omega arith in x in
    let exact : c.args.s.exact ≡ true = search rules in
    let past : c.args.p.n ≤ c.args.s.variable = omega arith in
    let refused : c.args.p.refusal ≡ 0 → ⊥ = λ e. let x : ⊥ = omega arith in x in
    simp (ne_eqb _ _ other, exact, le-leb _ _ past, ne_eqb _ _ refused))
    (λ c.
    let other : c.args.p.refusal ≡ 9 → ⊥ = λ e. let x : ⊥ = omega arith in x in
    let exact : c.args.s.exact ≡ true = search rules in
    let past : c.args.p.n ≤ c.args.s.variable = omega arith in
    let accepted : c.args.p.refusal ≡ 0 = omega arith in
    let high : c.args.s.high ≡ true = search rules in
    simp (ne_eqb _ _ other, exact, le-leb _ _ past, eq-eqb _ _ accepted, high))
    (λ c.
    let other : c.args.p.refusal ≡ 9 → ⊥ = λ e. let x : ⊥ = omega arith in x in
    let exact : c.args.s.exact ≡ true = search rules in
    let past : c.args.p.n ≤ c.args.s.variable = omega arith in
    let accepted : c.args.p.refusal ≡ 0 = omega arith in
    let high : c.args.s.high ≡ false = search rules in
    let low : c.args.s.low ≡ true = search rules in
    simp (ne_eqb _ _ other, exact, le-leb _ _ past, eq-eqb _ _ accepted, high, low))
    (λ c.
    let other : c.args.p.refusal ≡ 9 → ⊥ = λ e. let x : ⊥ = omega arith in x in
    let exact : c.args.s.exact ≡ true = search rules in
    let past : c.args.p.n ≤ c.args.s.variable = omega arith in
    let accepted : c.args.p.refusal ≡ 0 = omega arith in
    let high : c.args.s.high ≡ false = search rules in
    let low : c.args.s.low ≡ false = search rules in
    simp (ne_eqb _ _ other, exact, le-leb _ _ past, eq-eqb _ _ accepted, high, low))
    (λ c.
    let other : c.args.p.refusal ≡ 9 → ⊥ = λ e. let x : ⊥ = omega arith in x in
    let exact : c.args.s.exact ≡ false = search rules in
    simp (ne_eqb _ _ other, exact)))
