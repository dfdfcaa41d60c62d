-- The counts of the values of the first `o` variables are changed.
use Rattle.std.proofs.Common.{◌≡◌}
use Rattle.bins_counts.specs.Counts.{changed_each, minus}
use Rattle.bins_counts.proofs.draw.Given as goal

abbrev pub invariant-loop-o : goal.invariant-loop-o
invariant-loop-o l = l.counts ≡ changed_each (minus l.amount) l.sizes l.values l.initial.counts l.o
