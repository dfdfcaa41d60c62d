use Rattle.std.proofs.Common.{take}
use Rattle.text_put.specs.Put.{Put}
use Rattle.text_put.proofs.put_text.Given as goal

-- The bytes before the index are put.
abbrev pub invariant-loop-byte : goal.invariant-loop-byte
invariant-loop-byte l = Put l.fn.buffer l.buffer (take l.byte-index l.fn.text) l.fn.at l.next
