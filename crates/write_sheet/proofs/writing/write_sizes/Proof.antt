-- The loop's invariant: the sizes below `i` are written.
use mathlib.Core.List.{[], ◌∷◌}
use mathlib.Core.Path.{◌≡◌}
use Prim.Native.Nat.{ℕ, ◌-◌, ◌≤◌}
use native.Mathlib.Omega.{arith}
use lib.ListN.{get_or}
use borrow.Author.Rules.{rules}
use Rattle.buffers.specs.Wrote.{Wrote}
use Rattle.write_tables.specs.Texts.{joined, sizes_text}
use Rattle.write_tables.proofs.Texts.{wrote-start, wrote-room, wrote-next}
use Rattle.write_sheet.proofs.writing.write_sizes.Statement.{statement}
use Rattle.write_sheet.proofs.writing.write_sizes.Tie as tie

abbrev invariant-loop : tie.invariant-loop-i
invariant-loop n sizes buffer₀ at next₀ i₀ buffer next i = (i ≤ n) × Wrote buffer₀ buffer (joined 0 i (λ (k : ℕ). get_or sizes k 0 ∷ [])) at next

abbrev decreases-loop : tie.decreases-loop-i
decreases-loop n sizes buffer₀ at next₀ i₀ buffer next i = n - i

loop-holds : tie.Need-loop-i-init invariant-loop decreases-loop
unfolding sizes_text
loop-holds c = (omega arith, wrote-start 0 _ (omega arith))

put-byte-requires : tie.Need-put_byte-next-requires invariant-loop decreases-loop
unfolding sizes_text
put-byte-requires c κs =
    let s = c in
    omega (arith, wrote-room _ s.args.n (omega arith) (omega arith) s.requires.1 c.loop-i.invariant.1)

loop-again : tie.Need-loop-i-preserved invariant-loop decreases-loop
loop-again c =
    (omega arith, wrote-next _ (omega arith) c.loop-i.invariant.1 c.put_byte-next.ensures)

returns : tie.Need-returns invariant-loop decreases-loop
unfolding sizes_text
returns c = rw (let e : c.loop-i.i ≡ c.args.n = omega arith in e) at c.loop-i.invariant.1

pub write_sizes_spec : {M : Type 1} → statement M
write_sizes_spec =
    tie.close
    (tie.spec
    invariant-loop
    decreases-loop
    loop-holds
    (λ c. search rules)
    put-byte-requires
    (λ c. search rules)
    (λ c. search rules)
    loop-again
    (λ c. search rules)
    returns)
