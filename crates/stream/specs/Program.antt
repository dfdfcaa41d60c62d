-- THE MEANING of a program that takes lines: line by line.
use Rattle.std.specs.Prelude.{List, [], ◌∷◌, ◌++◌, ℕ}

-- How a line is read, byte by byte, into what is seen of it (L); what a line does to the program's state (S), and what is printed for it.
pub record Program (L S : Type 0) : Type 0 where
  pub opening : L
  pub step : L → ℕ → L
  pub act : S → L → S
  pub answer : S → L → List ℕ

module _ {L S : Type 0} (P : Program L S) where
  -- What is seen of a line, in parts and whole.
  unfoldable pub seen_from : L → List ℕ → L
  seen_from s [] = s
  seen_from s (b ∷ bs) = seen_from (P.step s b) bs

  unfoldable pub seen_of : List ℕ → L
  seen_of line = seen_from P.opening line

  -- What is printed for lines, each answered by the state that those before it left,
  unfoldable pub answers : S → List (List ℕ) → List ℕ
  answers σ [] = []
  answers σ (l ∷ ls) = P.answer σ (seen_of l) ++ answers (P.act σ (seen_of l)) ls

  -- and the state after them.
  unfoldable pub state_after : S → List (List ℕ) → S
  state_after σ [] = σ
  state_after σ (l ∷ ls) = state_after (P.act σ (seen_of l)) ls
