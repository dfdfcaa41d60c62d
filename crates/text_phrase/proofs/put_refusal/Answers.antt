use Rattle.text_put.proofs.Laws.{put_then}
use Rattle.text_phrase.specs.Phrase.{refusal_line}
use Rattle.text_phrase.proofs.put_refusal.Goals as goal

pub returns : goal.returns
unfolding refusal_line
returns c = put_then c.put_refused-numbered.ensures c.put_phrase_end.ensures
