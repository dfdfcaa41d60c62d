-- After i turns the first i bytes are written.
use mathlib.Core.Path.{◌∙◌}
use Prim.Native.Nat.{◌-◌, ◌≤◌}
use native.Mathlib.Omega.{arith}
use lib.ListN.{take}
use borrow.Author.Rules.{rules}
use Rattle.buffers.specs.Wrote.{Wrote}
use Rattle.buffers.proofs.Laws.{wrote_none}
use Rattle.buffers.proofs.Digits.{digits-room, digits_more, digits-all}
use Rattle.format.specs.Print.{bytes_of}
use Rattle.write_tables.proofs.Texts.{octets}
use Rattle.write_tables.proofs.put_number.Statement.{statement}
use Rattle.write_tables.proofs.put_number.Tie as tie

abbrev invariant-loop : tie.invariant-loop-i
invariant-loop buffer₀ at number bytes low_first next₀ i₀ buffer next i = (i ≤ bytes) × Wrote buffer₀ buffer (take i (bytes_of bytes number)) at next

abbrev decreases-loop : tie.decreases-loop-i
decreases-loop buffer₀ at number bytes low_first next₀ i₀ buffer next i = bytes - i

loop-holds : tie.Need-loop-i-init invariant-loop decreases-loop
loop-holds c = (search rules, wrote_none _ _ (omega arith))

put-byte-requires : tie.Need-put_byte-next-requires invariant-loop decreases-loop
unfolding octets
put-byte-requires c κs =
    let l = c in
    let s = l in
    digits-room (octets s.args.number) s.args.bytes l.loop-i.i (omega arith) s.requires.1 l.loop-i.invariant.1

loop-again : tie.Need-loop-i-preserved invariant-loop decreases-loop
unfolding octets
loop-again c =
    let p = c in
    let l = p in
    let t = l in
    let s = t in (
      search rules,
      digits_more (octets s.args.number) s.args.bytes l.loop-i.i (omega arith)
          (p.byte_of.ensures ∙ t.turned-low_first.ensures l.loop-i.i (omega arith)) l.loop-i.invariant.1 p.put_byte-next.ensures,
    )

returns : tie.Need-returns invariant-loop decreases-loop
unfolding octets
returns c =
    let s = c in digits-all (octets s.args.number) s.args.bytes c.loop-i.i (omega arith) c.loop-i.invariant.1

pub put_number_spec : {M : Type 1} → statement M
put_number_spec =
    tie.close
    (tie.spec
    invariant-loop
    decreases-loop
    (λ c κs. search rules)
    loop-holds
    (λ c κs. search rules)
    put-byte-requires
    (λ c. search rules)
    (λ c. search rules)
    loop-again
    (λ c. search rules)
    returns)
