use Rattle.text_lines.specs.Text.{ascii}
use Rattle.text_put.proofs.Laws.{put-text}
use Rattle.std.proofs.Common.{ap, ◌∙◌}
use Rattle.text_phrase.specs.Phrase.{refused_number}
use Rattle.text_phrase.proofs.put_refused.Goals as goal

pub returns : goal.returns
unfolding refused_number ascii
returns c = put-text (ap refused_number (c.from.ensures ∙ c.number.ensures)) c.put_titled.ensures
