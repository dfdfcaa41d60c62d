-- It is a row of the array: `row_up`.
use mathlib.Core.List.{List}
use mathlib.Core.Path.{◌≡◌}
use Prim.Native.Nat.{ℕ, ◌+◌, ◌*◌, ◌^◌, ◌<◌}
use lib.ListN.{get_or}
use borrow.Author.Rules.{rules}
use Rattle.words.specs.Word.{word}
use Rattle.pairs.specs.Pairs.{slot, allows_of}
use Rattle.pairs.proofs.Runs.{row_up}
use Rattle.pairs_read.proofs.stored_row.Statement.{statement}
use Rattle.pairs_read.proofs.stored_row.Tie as tie

at_place : (rows : List ℕ) {i j a at r : ℕ} → i < j → j < 16 → a < 32 → (r ≡ get_or rows (at + a) 0) × (r < 2 ^ 32) → at ≡ slot i j * 32
    → r ≡ word 32 (allows_of 32 rows i j a)
at_place rows {i} {j} {a} {at} {r} l m h k e = row_up 32 rows i j a r l m h k.1 (rw e at k.0)

returns : tie.Need-returns
returns c =
    let p = c in
    let s = p in
    at_place _ s.requires.0 s.requires.1 s.requires.2 c.known.ensures p.place.ensures.0

pub stored_row_spec : {M : Type 1} → statement M
stored_row_spec =
    tie.close
    (tie.spec
    (λ c κs. search rules)
    (λ c. search rules)
    (λ c. search rules)
    (λ c. search rules)
    (λ c κs. search rules)
    returns)
