-- Its two cases.
use mathlib.Core.Path.{sym, ◌∙◌, ap}
use borrow.Author.Tests.{lt-ltb, le-ltb}
use borrow.Author.Rules.{rules}
use Rattle.bounded.proofs.Bool.{if-true, if-false}
use Prim.Native.Nat.{ℕ}
use lib.Dec.{eqb}
use Rattle.bins_text.specs.Machine.{in_order}
use Rattle.bins_text.proofs.in_order.Statement.{statement}
use Rattle.bins_text.proofs.in_order.Tie as tie

returns : tie.Need-returns-then-count-lt-BINS
unfolding in_order
returns c = let t = c in ap (λ (k : ℕ). eqb k t.args.count) c.place_index.ensures ∙ sym (if-true _ _ _ (lt-ltb _ _ t.if-count-lt-BINS.true))

returns-2 : tie.Need-returns
unfolding in_order
returns-2 c = sym (if-false _ _ _ (le-ltb _ _ c.if-count-lt-BINS.false))

pub in_order_spec : {M : Type 1} → statement M
in_order_spec = tie.close (tie.spec (λ c κs. search rules) returns returns-2)
