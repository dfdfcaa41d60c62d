-- The count where the value's stands.
use mathlib.Core.Path.{ap}
use Prim.Native.Nat.{ℕ}
use lib.Dec.{ltb}
use lib.ListN.{get_or}
use Rattle.bins_counts.specs.Counts.{is_low}
use borrow.Author.Rules.{rules}
use Rattle.bins_counts.proofs.is_low.Statement.{statement}
use Rattle.bins_counts.proofs.is_low.Tie as tie

returns : tie.Need-returns
unfolding is_low
returns c = let a = c.args in ap (λ (i : ℕ). ltb (get_or a.counts.now i 0) a.amount) c.spot_of-at.ensures

pub is_low_spec : {M : Type 1} → statement M
is_low_spec =
    tie.close
    (tie.spec
    (λ c κs. search rules)
    (λ c. search rules)
    (λ c. search rules)
    returns)
