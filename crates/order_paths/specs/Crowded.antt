-- The values that have more than one partner.
use Rattle.std.specs.Prelude.{List, ℕ, leb}
use Rattle.words.specs.Word.{word}
use Rattle.pairs.specs.Pairs.{partners_at}

-- The values of i that have two partners or more in the domain dj of j: those for which "more than one allowed partner in the list of j" holds.
unfoldable pub crowded_of : ℕ → List ℕ → ℕ → ℕ → ℕ → ℕ
crowded_of w rows i j dj = word w (λ (a : ℕ). leb 2 (partners_at w rows i j dj a))
