-- Before each turn the bytes below `next` are taken.
use Rattle.std.proofs.Common.{◌≡◌, ◌≤◌}
use lib.ListN.{length}
use Rattle.scan.specs.declared.Scan.{Scan}
use Rattle.state.specs.View.{state_of}
use Rattle.stream.specs.Bytes.{At, after, texts, between}
use Rattle.text_put.specs.Put.{Put}
use Rattle.year_entries.specs.Year.{Year}
use Rattle.year_act.specs.Kept.{Whole}
use Rattle.year_feed.specs.Feed.{year_program, HeldAt}
use Rattle.year_feed.proofs.feed.Given as goal

abbrev pub invariant-loop-next : goal.invariant-loop-next
invariant-loop-next l =
    (l.fn.from ≤ l.next)
    × (l.fn.from ≤ length l.fn.bytes → l.next ≤ length l.fn.bytes)
    × (l.next ≡ l.fn.from → l.length ≡ 0)
    × Whole l.counts l.ins l.outs l.shorts
    × ((z : At Scan Year) → HeldAt (state_of l.fn.head l.fn.rows) z l.fn.run l.fn.counts l.fn.ins l.fn.outs l.fn.shorts
    → HeldAt (state_of l.fn.head l.fn.rows) (after (year_program (state_of l.fn.head l.fn.rows) l.fn.quiet) z (between l.fn.from l.next l.fn.bytes)) l.on l.counts l.ins l.outs l.shorts
    × Put l.fn.text l.text (texts (year_program (state_of l.fn.head l.fn.rows) l.fn.quiet) z (between l.fn.from l.next l.fn.bytes)) 0 l.length)
    × (length l.text ≡ length l.fn.text)
