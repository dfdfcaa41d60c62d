use Rattle.std.proofs.Common.{sym, ◌∙◌, refl, arith}
use Rattle.stream.specs.Bytes.{after}
use Rattle.stream.proofs.Parts.{after-take}
use Rattle.bins_text.specs.Fed.{at, program}
use Rattle.bins_text.proofs.feed.Goals as goal

pub loop-byte-init : goal.loop-byte-init
unfolding after
loop-byte-init c = refl

pub loop-byte-preserved : goal.loop-byte-preserved
loop-byte-preserved c =
    let a = c.args in
    let P = program a.n a.sizes in
    c.take_byte-now.ensures ∙ rw c.loop-byte.invariant (sym (after-take P (at a.run a.counts.now) c.loop-byte.byte-index a.bytes.now (omega arith)))
