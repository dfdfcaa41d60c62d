-- After the last value comes value 0.
use mathlib.Core.Path.{sym}
use borrow.Author.Tests.{le-ltb, lt-ltb}
use Rattle.bounded.proofs.Bool.{if-true, if-false}
use Rattle.bins.specs.Plans.{next_value}
use borrow.Author.Rules.{rules}
use Rattle.bins.proofs.next_value.Statement.{statement}
use Rattle.bins.proofs.next_value.Tie as tie

returns : tie.Need-returns-then-v-n
unfolding next_value
returns c = sym (if-true _ _ _ (lt-ltb _ _ (rw c.size-n.ensures at c.if-v-n.true)))

returns-2 : tie.Need-returns
unfolding next_value
returns-2 c = sym (if-false _ _ _ (le-ltb _ _ (rw c.size-n.ensures at c.if-v-n.false)))

pub next_value_spec : {M : Type 1} → statement M
next_value_spec = tie.close (tie.spec (λ c κs. search rules) (λ c. search rules) (λ c. search rules) returns returns-2)
