-- After i turns the first i are written.
use mathlib.Core.Path.{◌≡◌}
use Prim.Native.Nat.{◌-◌, ◌≤◌}
use native.Mathlib.Omega.{arith}
use borrow.Author.Rules.{rules}
use Rattle.buffers.specs.Wrote.{Wrote}
use Rattle.buffers.proofs.Laws.{wrote_none}
use Rattle.text_lines.specs.Text.{option_lines}
use Rattle.text_lines.proofs.Laws.{lines-room, lines-turn}
use Rattle.text_lines.proofs.put_options.Statement.{statement}
use Rattle.text_lines.proofs.put_options.Tie as tie

abbrev invariant-loop : tie.invariant-loop-i
invariant-loop buffer₀ at n leaders lists next₀ i₀ buffer next i = (i ≤ n) × Wrote buffer₀ buffer (option_lines leaders lists i) at next

abbrev decreases-loop : tie.decreases-loop-i
decreases-loop buffer₀ at n leaders lists next₀ i₀ buffer next i = n - i

loop-holds : tie.Need-loop-i-init invariant-loop decreases-loop
unfolding option_lines
loop-holds c = (search rules, wrote_none _ _ (omega arith))

put-option-requires : tie.Need-put_option-next-requires invariant-loop decreases-loop
put-option-requires c κs =
    let l = c in
    let s = l in
    (omega arith, lines-room s.args.leaders.now s.args.lists.now s.args.n l.loop-i.i (omega arith) s.requires.1 l.loop-i.invariant.1)

loop-again : tie.Need-loop-i-preserved invariant-loop decreases-loop
loop-again c =
    let p = c in
    let l = p in
    let s = l in
    (search rules, lines-turn s.args.leaders.now s.args.lists.now l.loop-i.i l.loop-i.invariant.1 p.put_option-next.ensures)

returns : tie.Need-returns invariant-loop decreases-loop
returns c = let e : c.loop-i.i ≡ c.args.n = omega arith in rw e at c.loop-i.invariant.1

pub put_options_spec : {M : Type 1} → statement M
put_options_spec =
    tie.close
    (tie.spec
    invariant-loop
    decreases-loop
    loop-holds
    (λ c. search rules)
    (λ c. search rules)
    (λ c. search rules)
    put-option-requires
    (λ c. search rules)
    (λ c. search rules)
    loop-again
    (λ c. search rules)
    returns)
