-- The bytes before the one that comes next are taken.
use Rattle.std.proofs.Common.{◌≡◌, take}
use Rattle.stream.specs.Bytes.{after}
use Rattle.bins_text.specs.Fed.{at, program}
use Rattle.bins_text.proofs.feed.Given as goal

abbrev pub invariant-loop-byte : goal.invariant-loop-byte
invariant-loop-byte l = at l.now l.counts ≡ after (program l.n l.sizes) (at l.initial.now l.initial.counts) (take l.byte-index l.bytes)
