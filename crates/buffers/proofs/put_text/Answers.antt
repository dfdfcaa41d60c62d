use Rattle.std.proofs.Common.{rules, arith}
use Rattle.buffers.proofs.Laws.{wrote_none, copied-room, copied_more, copied_all}
use Rattle.buffers.proofs.put_text.Goals as goal

pub loop-byte-init : goal.loop-byte-init
loop-byte-init c = wrote_none _ _ (omega arith)

pub put_byte-next-requires : goal.put_byte-next-requires
put_byte-next-requires c = copied-room _ _ (search rules) c.requires c.loop-byte.invariant

pub loop-byte-preserved : goal.loop-byte-preserved
loop-byte-preserved c = copied_more _ _ (search rules) c.loop-byte.invariant c.put_byte-next.ensures

pub returns : goal.returns
returns c = copied_all _ _ (search rules) c.loop-byte.invariant
