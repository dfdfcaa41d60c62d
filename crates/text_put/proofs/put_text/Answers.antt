use Rattle.std.proofs.Common.{rules}
use Rattle.text_put.proofs.Laws.{put-none, copied_more, copied_all}
use Rattle.text_put.proofs.put_text.Goals as goal

pub loop-byte-init : goal.loop-byte-init
loop-byte-init c = put-none _ _

pub loop-byte-preserved : goal.loop-byte-preserved
loop-byte-preserved c = copied_more _ _ (search rules) c.loop-byte.invariant c.put_byte-next.ensures

pub returns : goal.returns
returns c = copied_all _ _ (search rules) c.loop-byte.invariant
