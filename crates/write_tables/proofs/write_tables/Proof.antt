-- The loop's invariant: the tables whose first variable is below `i` are written.
use mathlib.Core.Path.{◌≡◌}
use Prim.Native.Nat.{ℕ, ◌-◌, ◌≤◌}
use native.Mathlib.Omega.{arith}
use lib.ListN.{get_or}
use borrow.Author.Rules.{rules}
use Rattle.buffers.specs.Wrote.{Wrote}
use Rattle.write_tables.specs.Texts.{joined, row_of, later_text, tables_text}
use Rattle.write_tables.proofs.Texts.{wrote-start, wrote-room, wrote-next}
use Rattle.write_tables.proofs.write_tables.Statement.{statement}
use Rattle.write_tables.proofs.write_tables.Tie as tie

abbrev invariant-loop : tie.invariant-loop-i
invariant-loop bytes n sizes stated rows buffer₀ at next₀ i₀ buffer next i =
    (i ≤ n) × Wrote buffer₀ buffer (joined 0 i (λ (k : ℕ). later_text bytes (row_of 32 rows) n (get_or sizes k 0) (get_or stated k 0) k)) at next

abbrev decreases-loop : tie.decreases-loop-i
decreases-loop bytes n sizes stated rows buffer₀ at next₀ i₀ buffer next i = n - i

loop-holds : tie.Need-loop-i-init invariant-loop decreases-loop
unfolding tables_text
loop-holds c = (omega arith, wrote-start _ _ (omega arith))

write-later-requires : tie.Need-write_later-next-requires invariant-loop decreases-loop
unfolding tables_text
write-later-requires c κs =
    let l = c in
    let s = l in
    let r = wrote-room _ s.args.n (omega arith) (omega arith) s.requires.1 l.loop-i.invariant.1 in
    let small = s.requires.0.2 l.loop-i.i in
    let below = s.requires.0.3 l.loop-i.i in
    rw c.wide-size.ensures (search (below, rules))

loop-again : tie.Need-loop-i-preserved invariant-loop decreases-loop
loop-again c =
    let p = c in
    let w = p in
    (omega arith, wrote-next _ (omega arith) w.loop-i.invariant.1 (rw w.wide-size.ensures at p.write_later-next.ensures))

returns : tie.Need-returns invariant-loop decreases-loop
unfolding tables_text
returns c = rw (let e : c.loop-i.i ≡ c.args.n = omega arith in e) at c.loop-i.invariant.1

pub write_tables_spec : {M : Type 1} → statement M
write_tables_spec =
    tie.close
    (tie.spec
    invariant-loop
    decreases-loop
    loop-holds
    (λ c. search rules)
    (λ c κs. search rules)
    (λ c. search rules)
    (λ c. search rules)
    write-later-requires
    (λ c. search rules)
    (λ c. search rules)
    loop-again
    (λ c. search rules)
    returns)
