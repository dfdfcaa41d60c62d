use Rattle.text_lines.specs.Text.{ascii}
use Rattle.text_put.proofs.Laws.{put_then}
use Rattle.text_phrase.specs.Phrase.{ending}
use Rattle.text_phrase.proofs.put_ending.Goals as goal

pub returns : goal.returns
unfolding ending ascii
returns c = put_then c.put_text-begun.ensures (put_then c.put_text-said.ensures c.put_text.ensures)
