use Rattle.std.proofs.Common.{◌≡◌, drop}
use Rattle.bins.specs.Plans.{run, start_of, moved_of}
use Rattle.bins_post.proofs.Lists.{upto}
use Rattle.bins_post.proofs.post.Given as goal

-- What has been seen, and what is still to be looked at, come to what all the bins come to.
abbrev pub invariant-loop-bin : goal.invariant-loop-bin
invariant-loop-bin l = run l.p l.s (drop l.bin-index l.bin-items) ≡ run l.p start_of l.bin-items

-- The bins before the one that comes next are moved.
abbrev pub invariant-loop-bin-then-code-eq0 : goal.invariant-loop-bin-then-code-eq0
invariant-loop-bin-then-code-eq0 l = l.bins ≡ upto (moved_of l.p) l.bin-index l.initial.bins
