use Rattle.std.proofs.Common.{rules}
use borrow.Author.Tests.{lt-ltb, le-ltb}
use Rattle.bounded.proofs.Bool.{if-true, if-false}
use Rattle.solutions.specs.Choices.{lowest_of}
use Rattle.solutions_head.proofs.lowest_values.Goals as goal

pub returns : goal.returns
unfolding lowest_of
returns c = c.table.ensures _ (λ i x l m. search (rules, if-true, if-false, lt-ltb, le-ltb))
