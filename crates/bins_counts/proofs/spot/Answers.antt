use Rattle.std.proofs.Common.{◌≡◌, ℕ, ◌+◌, List, get_or, arith, add-one}
use Rattle.bounded.specs.Fold.{sum}
use Rattle.bins_counts.specs.Counts.{spot}
use Rattle.bins_counts.proofs.spot.Goals as goal

-- One variable more.
more : (sizes : List ℕ) (at i value w : ℕ) → at ≡ spot sizes i value → w ≡ get_or sizes i 0 → at + w ≡ spot sizes (i + 1) value
unfolding spot sum
more sizes at i value w e f = rw add-one (omega (arith, e, f))

pub loop-i-init : goal.loop-i-init
unfolding spot sum
loop-i-init c = (omega arith, omega arith)

pub loop-i-preserved : goal.loop-i-preserved
loop-i-preserved c =
    (more _ c.loop-i.at c.loop-i.i _ _ c.loop-i.invariant.0 c.from-at.ensures, omega (arith, c.from-at.ensures, c.loop-i.invariant.1, c.loop-i-test.element_fits.fits))
