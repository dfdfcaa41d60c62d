-- The run of the pair becomes 0: `run-stored`, and `stored-turned` where `i` is the higher variable.
use mathlib.Core.List.{List}
use mathlib.Core.Path.{◌≡◌}
use Prim.Native.Nat.{ℕ, ◌*◌, ◌<◌}
use native.Mathlib.Omega.{arith}
use borrow.Author.Rules.{rules}
use Rattle.words.proofs.Laws.{has-zero}
use Rattle.pairs.specs.Pairs.{slot}
use Rattle.pairs.specs.Frames.{RunPut, Cleared}
use Rattle.pairs.proofs.Laws.{higher}
use Rattle.pairs.proofs.Frames.{run-stored, stored-turned, stored-cong}
use Rattle.pairs_store.proofs.clear.Statement.{statement}
use Rattle.pairs_store.proofs.clear.Tie as tie

cleared : {before after : List ℕ} {i j at : ℕ} → i < j → j < 16 → at ≡ slot i j * 32 → RunPut before after at (λ (a : ℕ). 0) 32 → Cleared 32 before after i j
cleared {before} {after} {i} {j} {at} l m e p =
    stored-cong 32 before after 32
    (run-stored 32 before after i j 32 (λ (a : ℕ). 0) l m (omega arith) (rw e at p) (λ a k. omega arith))
    (λ a b _ _ _. has-zero b)

returns : tie.Need-returns-then-i-j
returns c =
    let s = c in
    cleared (omega arith) s.requires.1 c.place.ensures.0 c.clear_run.ensures

returns-2 : tie.Need-returns
returns-2 c =
    let s = c in
    stored-turned 32
    (cleared (higher c.if-i-j.false s.requires.2) s.requires.0 c.place-2.ensures.0 c.clear_run-2.ensures)

pub clear_spec : {M : Type 1} → statement M
clear_spec = tie.close (tie.spec (λ c κs. search rules) (λ c κs. search rules) returns (λ c κs. search rules) (λ c κs. search rules) returns-2)
