-- The count where the value's stands.
use mathlib.Core.Path.{◌≡◌, ap}
use Prim.Native.Nat.{ℕ, ◌+◌}
use lib.ListN.{get_or}
use Rattle.bins_counts.specs.Counts.{bin_of_place}
use borrow.Author.Rules.{rules}
use Rattle.stock.proofs.bin_of.Statement.{statement}
use Rattle.stock.proofs.bin_of.Tie as tie

returns : tie.Need-returns
returns c =
    let a = c.args in
    ap (λ (k : ℕ). bin_of_place (a.o + 1, get_or a.values a.o 0) (get_or a.counts.now k 0)) c.spot_of-at.ensures

pub bin_of_spec : {M : Type 1} → statement M
bin_of_spec =
    tie.close
    (tie.spec
    (λ c κs. search rules)
    (λ c. search rules)
    (λ c. search rules)
    (λ c. search rules)
    (λ c. search rules)
    (λ c. search rules)
    returns)
