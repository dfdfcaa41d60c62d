-- The loop's invariant: the rows of the values below `a` are written.
use mathlib.Core.Path.{◌≡◌}
use Prim.Native.Nat.{ℕ, ◌-◌, ◌≤◌}
use native.Mathlib.Omega.{arith}
use borrow.Author.Rules.{rules}
use Rattle.format.specs.Print.{bytes_of}
use Rattle.format.proofs.Numbers.{length-bytes_of}
use Rattle.buffers.specs.Wrote.{Wrote}
use Rattle.write_tables.specs.Texts.{joined, row_of, rows_text}
use Rattle.write_tables.proofs.Texts.{wrote-start, wrote-room, wrote-next}
use Rattle.write_tables.proofs.put_rows.Statement.{statement}
use Rattle.write_tables.proofs.put_rows.Tie as tie

abbrev invariant-loop : tie.invariant-loop-a
invariant-loop bytes size i j rows buffer₀ at next₀ a₀ buffer next a =
    (a ≤ size) × Wrote buffer₀ buffer (joined 0 a (λ (k : ℕ). bytes_of bytes (row_of 32 rows i j k))) at next

abbrev decreases-loop : tie.decreases-loop-a
decreases-loop bytes size i j rows buffer₀ at next₀ a₀ buffer next a = size - a

loop-holds : tie.Need-loop-a-init invariant-loop decreases-loop
unfolding rows_text
loop-holds c = (omega arith, wrote-start 0 _ (omega arith))

put-number-requires : tie.Need-put_number-next-requires invariant-loop decreases-loop
unfolding rows_text
put-number-requires c κs =
    let l = c in
    let s = l in
    (search rules, simp length-bytes_of at (wrote-room _ s.args.size (omega arith) (omega arith) s.requires.1 l.loop-a.invariant.1))

loop-again : tie.Need-loop-a-preserved invariant-loop decreases-loop
unfolding row_of
loop-again c =
    let p = c in
    (omega arith, wrote-next _ (omega arith) p.loop-a.invariant.1 (rw p.stored_row.ensures at p.put_number-next.ensures))

returns : tie.Need-returns invariant-loop decreases-loop
unfolding rows_text
returns c = rw (let e : c.loop-a.a ≡ c.args.size = omega arith in e) at c.loop-a.invariant.1

pub put_rows_spec : {M : Type 1} → statement M
put_rows_spec =
    tie.close
    (tie.spec
    invariant-loop
    decreases-loop
    loop-holds
    (λ c κs. search rules)
    put-number-requires
    (λ c. search rules)
    (λ c. search rules)
    loop-again
    (λ c. search rules)
    returns)
