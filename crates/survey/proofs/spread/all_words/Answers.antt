use Rattle.std.proofs.Common.{rules}
use Rattle.survey.proofs.spread.all_words.Goals as goal

pub table-requires : goal.table-requires
table-requires c = let led = c.requires in search rules

pub returns : goal.returns
returns c = (c.table.ensures _ (λ i x l m. search rules), search rules)
