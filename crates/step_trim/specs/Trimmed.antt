-- "A value stays in a follower's list exactly when it is the partner of a value in the leader's list" (L8), on 16 domains and 16 leaders.
use Rattle.std.specs.Prelude.{List, ◌≡◌, ℕ, suc, pred, ◌<◌, eqb, get_or}
use Rattle.bounded.specs.Bool.{if}
use Rattle.pairs.specs.Pairs.{variables}
use Rattle.step_compose.specs.Compose.{supported_at}

-- The domain of x: as it was where nobody leads x, and else by rule 1 against its leader's.
unfoldable pub trimmed_at : ℕ → List ℕ → List ℕ → List ℕ → ℕ → ℕ
trimmed_at w rows domains leaders x =
    if (eqb (get_or leaders x 0) 0)
    (get_or domains x 0)
    (supported_at w rows x (pred (get_or leaders x 0)) (get_or domains x 0) (get_or domains (pred (get_or leaders x 0)) 0))

-- What the trimming asks: who leads another is one of the variables, and not the one that it leads.
unfoldable pub Led : List ℕ → Type 0
Led leaders = (x l : ℕ) → get_or leaders x 0 ≡ suc l → (l < variables) × (x ≡ l → ⊥)
