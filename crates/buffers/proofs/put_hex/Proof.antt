-- After i turns the first i digits are written.
use Prim.Native.Nat.{◌-◌, ◌≤◌}
use native.Mathlib.Omega.{arith}
use lib.ListN.{take}
use borrow.Author.Rules.{rules}
use Rattle.buffers.specs.Wrote.{Wrote}
use Rattle.buffers.specs.Digits.{hex_text}
use Rattle.buffers.proofs.Laws.{wrote_none}
use Rattle.buffers.proofs.Digits.{hexadecimal, digits-room, digits_more, digits-all}
use Rattle.buffers.proofs.put_hex.Statement.{statement}
use Rattle.buffers.proofs.put_hex.Tie as tie

abbrev invariant-loop : tie.invariant-loop-i
invariant-loop buffer₀ at word digits next₀ i₀ buffer next i = (i ≤ digits) × Wrote buffer₀ buffer (take i (hex_text digits word)) at next

abbrev decreases-loop : tie.decreases-loop-i
decreases-loop buffer₀ at word digits next₀ i₀ buffer next i = digits - i

loop-holds : tie.Need-loop-i-init invariant-loop decreases-loop
loop-holds c = (search rules, wrote_none _ _ (omega arith))

put-byte-requires : tie.Need-put_byte-next-requires invariant-loop decreases-loop
unfolding hexadecimal
put-byte-requires c κs =
    let l = c in
    let s = l in
    digits-room (hexadecimal s.args.word) s.args.digits l.loop-i.i (omega arith) s.requires.1 l.loop-i.invariant.1

loop-again : tie.Need-loop-i-preserved invariant-loop decreases-loop
unfolding hexadecimal
loop-again c =
    let p = c in
    let l = p in
    let s = l in (
      search rules,
      digits_more (hexadecimal s.args.word) s.args.digits l.loop-i.i (omega arith) p.hex_digit.ensures l.loop-i.invariant.1 p.put_byte-next.ensures,
    )

returns : tie.Need-returns invariant-loop decreases-loop
unfolding hexadecimal
returns c =
    let s = c in digits-all (hexadecimal s.args.word) s.args.digits c.loop-i.i (omega arith) c.loop-i.invariant.1

pub put_hex_spec : {M : Type 1} → statement M
put_hex_spec =
    tie.close
    (tie.spec
    invariant-loop
    decreases-loop
    loop-holds
    (λ c. search rules)
    (λ c. search rules)
    (λ c κs. search rules)
    put-byte-requires
    (λ c. search rules)
    (λ c. search rules)
    loop-again
    (λ c. search rules)
    returns)
