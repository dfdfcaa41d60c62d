-- A bit moved to another place: `moved-is`.
use native.Mathlib.Omega.{arith}
use borrow.Author.Rules.{rules}
use Rattle.pairs.proofs.Runs.{moved-is}
use Rattle.pairs_store.proofs.moved.Statement.{statement}
use Rattle.pairs_store.proofs.moved.Tie as tie

returns : tie.Need-returns
returns c = moved-is 32 _ _ c.requires.0 (omega arith)

pub moved_spec : {M : Type 1} → statement M
moved_spec = tie.close (tie.spec (λ c. search rules) (λ c. search rules) (λ c. search rules) (λ c. search rules) returns)
