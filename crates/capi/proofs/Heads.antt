-- The head of what was read.
use mathlib.Core.List.{List}
use mathlib.Core.Path.{◌≡◌, refl}
use Prim.Native.Nat.{ℕ}
use Rattle.std.specs.Prelude.{Result, Ok, Err}
use Rattle.cause.specs.declared.Refusal.{Refusal}
use Rattle.head.specs.declared.Head.{Head}
use Rattle.state.specs.View.{state_of}
use Rattle.state_read.specs.Parts.{read_parts_told, head_told}

-- With the rows it is the state told.
pub read-state : (read : Result Head Refusal) (rows : List ℕ) → state_of (head_told read) rows ≡ (read_parts_told read rows).state
unfolding read_parts_told head_told
read-state (Ok h) rows = refl
read-state (Err r) rows = refl
