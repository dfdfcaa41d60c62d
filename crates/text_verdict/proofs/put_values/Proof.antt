-- After i turns the first i are written.
use mathlib.Core.Path.{◌≡◌}
use Prim.Native.Nat.{◌-◌, ◌≤◌}
use native.Mathlib.Omega.{arith}
use borrow.Author.Rules.{rules}
use Rattle.buffers.specs.Wrote.{Wrote}
use Rattle.buffers.proofs.Laws.{wrote_none}
use Rattle.text_verdict.specs.Text.{value_texts}
use Rattle.text_verdict.proofs.Laws.{values-room, values-turn}
use Rattle.text_verdict.proofs.put_values.Statement.{statement}
use Rattle.text_verdict.proofs.put_values.Tie as tie

abbrev invariant-loop : tie.invariant-loop-i
invariant-loop buffer₀ at n solution next₀ i₀ buffer next i = (i ≤ n) × Wrote buffer₀ buffer (value_texts solution i) at next

abbrev decreases-loop : tie.decreases-loop-i
decreases-loop buffer₀ at n solution next₀ i₀ buffer next i = n - i

loop-holds : tie.Need-loop-i-init invariant-loop decreases-loop
unfolding value_texts
loop-holds c = (search rules, wrote_none _ _ (omega arith))

put-value-requires : tie.Need-put_value-next-requires invariant-loop decreases-loop
put-value-requires c κs =
    let l = c in
    let s = l in
    values-room s.args.solution.now s.args.n l.loop-i.i (omega arith) s.requires.1 l.loop-i.invariant.1

loop-again : tie.Need-loop-i-preserved invariant-loop decreases-loop
loop-again c =
    let p = c in
    let l = p in
    let s = l in
    (search rules, values-turn s.args.solution.now l.loop-i.i l.loop-i.invariant.1 p.put_value-next.ensures)

returns : tie.Need-returns invariant-loop decreases-loop
returns c = let e : c.loop-i.i ≡ c.args.n = omega arith in rw e at c.loop-i.invariant.1

pub put_values_spec : {M : Type 1} → statement M
put_values_spec =
    tie.close
    (tie.spec
    invariant-loop
    decreases-loop
    loop-holds
    (λ c. search rules)
    put-value-requires
    (λ c. search rules)
    (λ c. search rules)
    loop-again
    (λ c. search rules)
    returns)
