-- Each way through the test is a case of the definition.
use Rattle.soundness_head.proofs.Tests.{size_past, size_none, size-some}
use Rattle.soundness_head.proofs.size_sound.Statement.{statement}
use Rattle.soundness_head.proofs.size_sound.Tie as tie

returns : tie.Need-returns-then-n-i
returns c = size_past _ _ _ c.if-n-i.true

returns-2 : tie.Need-returns-then-size-lt1
returns-2 c = size_none _ _ _ c.if-n-i.false c.if-size-lt1.true

returns-3 : tie.Need-returns
returns-3 c = size-some _ _ _ c.if-n-i.false c.if-size-lt1.false

pub size_sound_spec : {M : Type 1} → statement M
size_sound_spec = tie.close (tie.spec returns returns-2 returns-3)
