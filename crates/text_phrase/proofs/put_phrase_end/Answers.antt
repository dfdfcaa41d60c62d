use Rattle.text_put.proofs.Laws.{put-text}
use Rattle.std.proofs.Common.{ap}
use Rattle.text_phrase.specs.Phrase.{ending, phrase_end}
use Rattle.text_phrase.proofs.put_phrase_end.Goals as goal

pub returns : goal.returns
unfolding phrase_end
returns c = put-text (ap ending c.phrase.ensures) c.put_ending.ensures
