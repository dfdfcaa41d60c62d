-- What is read, made less and put back.
use mathlib.Core.Path.{ap}
use Prim.Native.Nat.{ℕ}
use lib.ListN.{set}
use Rattle.bins_counts.specs.Counts.{changed_at}
use borrow.Author.Rules.{rules}
use Rattle.bins_counts.proofs.draw_at.Statement.{statement}
use Rattle.bins_counts.proofs.draw_at.Tie as tie

returns : tie.Need-returns
unfolding changed_at
returns c = let a = c.args in ap (λ (x : ℕ). set a.counts.now a.i x) c.less.ensures

pub draw_at_spec : {M : Type 1} → statement M
draw_at_spec =
    tie.close
    (tie.spec
    (λ c. search rules)
    (λ c. search rules)
    (λ c κs. search rules)
    (λ c. search rules)
    (λ c. search rules)
    returns)
