-- The same byte by byte: what code does that is handed an input in parts.
use Rattle.std.specs.Prelude.{Bool, true, false, List, [], ◌∷◌, ◌++◌, ℕ, ◌-◌, eqb, take, drop}
use Rattle.bounded.specs.Bool.{if}
use Rattle.stream.specs.Program.{Program}

-- The line that goes on: what was seen of it, and whether any byte was; and the state.
pub record At (L S : Type 0) : Type 0 where
  pub seen : L
  pub begun : Bool
  pub state : S

module _ {L S : Type 0} (P : Program L S) where
  unfoldable pub start : S → At L S
  start σ = record { seen = P.opening; begun = false; state = σ }

  -- A line feed, and any other byte.
  unfoldable pub ended : At L S → At L S
  ended y = record { seen = P.opening; begun = false; state = P.act y.state y.seen }

  unfoldable pub moved : At L S → ℕ → At L S
  moved y b = record { seen = P.step y.seen b; begun = true; state = y.state }

  unfoldable pub next : At L S → ℕ → At L S
  next y b = if (eqb b 10) (ended y) (moved y b)

  unfoldable pub text : At L S → ℕ → List ℕ
  text y b = if (eqb b 10) (P.answer y.state y.seen) []

  -- Several bytes.
  unfoldable pub after : At L S → List ℕ → At L S
  after y [] = y
  after y (b ∷ bs) = after (next y b) bs

  unfoldable pub texts : At L S → List ℕ → List ℕ
  texts y [] = []
  texts y (b ∷ bs) = text y b ++ texts (next y b) bs

  -- The end of the input: a last line that no line feed ends.
  unfoldable pub last_text : At L S → List ℕ
  last_text y = if y.begun (P.answer y.state y.seen) []

  unfoldable pub last_state : At L S → S
  last_state y = if y.begun (P.act y.state y.seen) y.state

  -- An input in parts, each handed to what the one before left.
  unfoldable pub parts_text : At L S → List (List ℕ) → List ℕ
  parts_text y [] = last_text y
  parts_text y (p ∷ ps) = texts y p ++ parts_text (after y p) ps

  unfoldable pub parts_state : At L S → List (List ℕ) → S
  parts_state y [] = last_state y
  parts_state y (p ∷ ps) = parts_state (after y p) ps

unfoldable pub joined : List (List ℕ) → List ℕ
joined [] = []
joined (p ∷ ps) = p ++ joined ps

-- The bytes from a place on, up to another.
abbrev pub between : ℕ → ℕ → List ℕ → List ℕ
between from to bytes = take (to - from) (drop from bytes)
