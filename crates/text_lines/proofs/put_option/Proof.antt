-- A live option, or a follower. That there is room is shown by the digits alone, so a wrong number or title fails on the text.
use borrow.Author.Rules.{rules}
use native.Mathlib.Omega.{arith}
use lib.ListN.{length-append}
use Rattle.buffers.proofs.Digits.{length-decimal-next}
use Rattle.text_lines.specs.Text.{ascii, pair_line, live_line}
use Rattle.text_lines.proofs.Laws.{option-live, option-follows}
use Rattle.text_lines.proofs.put_option.Statement.{statement}
use Rattle.text_lines.proofs.put_option.Tie as tie

put-live-requires : tie.Need-put_live-requires
unfolding live_line ascii
put-live-requires c κs =
    let s = c in
    let room = rw (option-live _ _ s.args.list c.if-leader-eq0.true) at s.requires.1 in
    simp length-append (omega (arith, simp length-append at room, length-decimal-next s.args.i))

returns : tie.Need-returns-then-leader-eq0
returns c = rw (option-live _ _ _ c.if-leader-eq0.true) c.put_live.ensures

put-pair-requires : tie.Need-put_pair-requires
unfolding pair_line ascii
put-pair-requires c κs =
    let s = c in
    let room = rw (option-follows _ _ s.args.list c.if-leader-eq0.false) at s.requires.1 in
    simp length-append (omega (arith, simp length-append at room))

returns-2 : tie.Need-returns
unfolding ascii
returns-2 c = rw (option-follows _ _ _ c.if-leader-eq0.false) c.put_pair.ensures

pub put_option_spec : {M : Type 1} → statement M
put_option_spec =
    tie.close
    (tie.spec
    (λ c. search rules)
    put-live-requires
    (λ c. search rules)
    returns
    put-pair-requires
    (λ c. search rules)
    returns-2)
