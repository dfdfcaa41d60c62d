-- The lines of the values below `v` are put.
use Rattle.std.proofs.Common.{ℕ, suc}
use Rattle.text_put.specs.Put.{Put, each}
use Rattle.year_end.specs.Arrays.{short_of_array}
use Rattle.year_end.proofs.put_short_variable.Given as goal

abbrev pub invariant-loop-v : goal.invariant-loop-v
invariant-loop-v l = Put l.initial.buffer l.buffer (each (λ (k : ℕ). short_of_array l.head.sizes l.shorts (suc l.o, k)) l.v) l.at l.next
