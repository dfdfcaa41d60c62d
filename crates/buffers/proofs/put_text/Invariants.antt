use Rattle.std.proofs.Common.{take}
use Rattle.buffers.specs.Wrote.{Wrote}
use Rattle.buffers.proofs.put_text.Given as goal

-- The bytes before the index are written.
abbrev pub invariant-loop-byte : goal.invariant-loop-byte
invariant-loop-byte l = Wrote l.fn.buffer l.buffer (take l.byte-index l.fn.text) l.fn.at l.next
