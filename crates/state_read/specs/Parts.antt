-- A reading whose rows are lent: what it tells together with the rows at exit.
use Rattle.std.specs.Prelude.{List, ℕ, Result, Ok, Err}
use Rattle.cause.specs.declared.Refusal.{Refusal}
use Rattle.cause.specs.Number.{number_of}
use Rattle.head.specs.declared.Head.{Head}
use Rattle.head.specs.Held.{zero_head}
use Rattle.state.specs.View.{state_of}
use Rattle.state.specs.Answers.{ReadTold}

-- The head of what was read, zero after a refusal.
unfoldable pub head_told : Result Head Refusal → Head
head_told (Ok h) = h
head_told (Err r) = zero_head

unfoldable pub read_parts_told : Result Head Refusal → List ℕ → ReadTold
read_parts_told (Ok h) rows = record { number = 0; place = 0; state = state_of h rows }
read_parts_told (Err r) rows = record { number = number_of r.cause; place = r.place; state = state_of zero_head rows }
