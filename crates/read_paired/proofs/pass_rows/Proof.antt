-- The loop's invariant: the first `a` rows have been passed.
use mathlib.Core.Path.{ap}
use Prim.Native.Nat.{ℕ, ◌+◌, ◌-◌, ◌*◌, ◌≤◌}
use native.Mathlib.Omega.{arith}
use borrow.Author.Rules.{rules}
use Rattle.read_number.proofs.Numbers.{row_inside}
use Rattle.read_number.specs.Standing.{standing_at}
use Rattle.read_paired.proofs.OnePass.{Passed, passed_none, passed-more, passed-all, bit-least, count-least}
use Rattle.read_paired.proofs.pass_rows.Statement.{statement}
use Rattle.read_paired.proofs.pass_rows.Tie as tie

abbrev invariant-loop : tie.invariant-loop-a
invariant-loop bytes from k rows seen₀ more₀ blanks₀ a₀ seen more blanks a =
    (a ≤ rows) × Passed 32 (λ (c : ℕ). standing_at k bytes (from + k * c)) a seen more blanks

abbrev decreases-loop : tie.decreases-loop-a
decreases-loop bytes from k rows seen₀ more₀ blanks₀ a₀ seen more blanks a = rows - a

loop-holds : tie.Need-loop-a-init invariant-loop decreases-loop
loop-holds c = (omega arith, passed_none 32)

add-blanks : tie.Need-overflow_add-blanks invariant-loop decreases-loop
add-blanks c =
    let r = c in
    omega (arith, bit-least _ c.blank-blanks.ensures, r.loop-a.invariant.1.blanks_few)

loop-again : tie.Need-loop-a-preserved invariant-loop decreases-loop
loop-again c =
    let m = c in
    let p = m in
    let s = p in
    let r = s in
    let P = r.loop-a.invariant.1 in (
      omega arith,
      passed-more 32 P r.standing-row.ensures
          (record {
            row_in = r.standing-row.type_inv;
            more_in = P.more_in;
            past_in = p.past_lowest.type_inv;
            seen_is = s.either-seen.ensures;
            past_is = p.past_lowest.ensures;
            more_is = m.either-more.ensures;
            blanks_is = ap (λ (x : ℕ). r.loop-a.blanks + x) c.blank-blanks.ensures;
          }),
    )

add-result : tie.Need-overflow_add-result invariant-loop decreases-loop
add-result c =
    let l = c.loop-a in
    omega (arith, count-least 32 l.seen c.count.ensures, l.invariant.1.blanks_few)

returns : tie.Need-returns invariant-loop decreases-loop
returns c = let t = c in passed-all 32 (omega arith) t.loop-a.invariant.1 c.count.ensures

pub pass_rows_spec : {M : Type 1} → statement M
pass_rows_spec =
    tie.close
    (tie.spec
    invariant-loop
    decreases-loop
    loop-holds
    (λ c. omega (arith, row_inside c.args.k c.loop-a-test.true))
    (λ c. omega (arith, row_inside c.args.k c.loop-a-test.true))
    (λ c κs. omega (arith, row_inside c.args.k c.loop-a-test.true))
    (λ c κs. search rules)
    (λ c κs. search rules)
    (λ c κs. search rules)
    (λ c κs. search rules)
    add-blanks
    (λ c. search rules)
    (λ c. search rules)
    loop-again
    (λ c κs. search rules)
    (λ c. search rules)
    add-result
    returns)
