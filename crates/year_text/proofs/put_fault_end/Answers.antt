use Rattle.std.proofs.Common.{ap}
use Rattle.text_put.proofs.Laws.{put-text}
use Rattle.text_phrase.specs.Phrase.{ending}
use Rattle.year_text.specs.Lines.{fault_end}
use Rattle.year_text.proofs.put_fault_end.Goals as goal

pub returns : goal.returns
unfolding fault_end
returns c = put-text (ap ending c.fault_phrase.ensures) c.put_ending.ensures
