-- One row of the array: `row_put`.
use mathlib.Core.List.{List}
use mathlib.Core.Path.{◌≡◌}
use Prim.Native.Nat.{ℕ, ◌+◌, ◌*◌}
use lib.ListN.{set}
use borrow.Author.Rules.{rules}
use Rattle.pairs.specs.Pairs.{slot}
use Rattle.pairs.specs.Frames.{RowPut}
use Rattle.pairs.proofs.Frames.{row_put}
use Rattle.pairs.proofs.store.put_row.Statement.{statement}
use Rattle.pairs.proofs.store.put_row.Tie as tie

at_place : {before : List ℕ} {i j a x at : ℕ} → at ≡ slot i j * 32 → RowPut 32 before (set before (slot i j * 32 + a) x) i j a x
    → RowPut 32 before (set before (at + a) x) i j a x
at_place e h = rw e h

returns : tie.Need-returns
returns c =
    let p = c.requires in
    at_place c.place.ensures.0 (row_put 32 _ _ p.0 p.1 p.2 p.3 c.ranges.x.fits)

pub put_row_spec : {M : Type 1} → statement M
put_row_spec =
    tie.close
    (tie.spec (λ c κs. search rules) (λ c. search rules) (λ c. search rules) (λ c. search rules) returns)
