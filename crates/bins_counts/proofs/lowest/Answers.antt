use Rattle.std.proofs.Common.{sym, ◌∙◌, arith}
use Rattle.bounded.proofs.Fold.{first_is}
use Rattle.bins_counts.specs.Counts.{lowest}
use Rattle.bins_counts.proofs.Each.{first-none}
use Rattle.bins_counts.proofs.lowest.Goals as goal

pub returns-then-is_low : goal.returns-then-is_low
unfolding lowest
returns-then-is_low c = sym (first_is _ _ _ (omega arith) (sym c.is_low.ensures ∙ c.if-is_low.true) c.loop-o.invariant)

pub returns : goal.returns
unfolding lowest
returns c = sym (first-none _ _ (λ k l. c.loop-o.invariant k (omega arith)))
