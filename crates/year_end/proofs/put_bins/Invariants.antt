-- The lines of the variables below `o` are put.
use Rattle.std.proofs.Common.{ℕ, suc, get_or}
use Rattle.text_put.specs.Put.{Put, each}
use Rattle.year_end.specs.Arrays.{bin_of}
use Rattle.year_end.proofs.put_bins.Given as goal

abbrev pub invariant-loop-o : goal.invariant-loop-o
invariant-loop-o l =
    Put l.initial.buffer l.buffer
    (each (λ (k : ℕ). each (λ (v : ℕ). bin_of l.head.sizes l.opened l.ins l.outs l.counts (suc k, v)) (get_or l.head.sizes k 0)) l.o) l.at l.next
