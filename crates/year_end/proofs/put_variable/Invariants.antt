-- The lines of the values below `v` are put.
use Rattle.std.proofs.Common.{ℕ, suc}
use Rattle.text_put.specs.Put.{Put, each}
use Rattle.year_end.specs.Arrays.{bin_of}
use Rattle.year_end.proofs.put_variable.Given as goal

abbrev pub invariant-loop-v : goal.invariant-loop-v
invariant-loop-v l = Put l.initial.buffer l.buffer (each (λ (k : ℕ). bin_of l.head.sizes l.opened l.ins l.outs l.counts (suc l.o, k)) l.v) l.at l.next
