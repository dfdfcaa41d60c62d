use Rattle.text_lines.specs.Text.{ascii}
use Rattle.text_put.proofs.Laws.{put_then}
use Rattle.text_phrase.specs.Phrase.{refusal_at_line}
use Rattle.text_phrase.proofs.put_refusal_at.Goals as goal

pub returns : goal.returns
unfolding refusal_at_line ascii
returns c = put_then c.put_refused-numbered.ensures (put_then c.put_titled-placed.ensures c.put_phrase_end.ensures)
