-- The sums of the values of the first `o` variables are changed.
use Rattle.std.proofs.Common.{◌≡◌}
use Rattle.bins_counts.specs.Counts.{changed_each, plus}
use Rattle.bins_counts.proofs.add_each.Given as goal

abbrev pub invariant-loop-o : goal.invariant-loop-o
invariant-loop-o l = l.sums ≡ changed_each (plus l.amount) l.sizes l.values l.initial.sums l.o
