-- The first `o` variables have enough.
use Rattle.std.proofs.Common.{◌≡◌, ℕ, ◌<◌, false}
use Rattle.bins_counts.specs.Counts.{is_low}
use Rattle.bins_counts.proofs.lowest.Given as goal

abbrev pub invariant-loop-o : goal.invariant-loop-o
invariant-loop-o l = (k : ℕ) → k < l.o → is_low l.sizes l.values l.counts l.amount k ≡ false
