-- The values of a build: each turn of a loop.
use mathlib.Core.List.{List, ◌++◌}
use mathlib.Core.Path.{◌≡◌, refl}
use Prim.Native.Nat.{ℕ, suc, ◌+◌, ◌≤◌, ◌<◌}
use lib.ListN.{length, get_or}
use Rattle.buffers.specs.Wrote.{Wrote}
use Rattle.buffers.proofs.Laws.{turn-room, turn_more}
use Rattle.text_verdict.specs.Text.{value_texts, value_text}

-- The values of a build, one more with each turn.
module _ (build : List ℕ) where
  value : ℕ → List ℕ
  value k = value_text (get_or build k 0)

  values-more : (k : ℕ) → value_texts build (suc k) ≡ value_texts build k ++ value k
  unfolding value value_text value_texts
  values-more k = refl

  pub values-room : (n i : ℕ) {a b : List ℕ} {at mid : ℕ} → i < n → at + length (value_texts build n) ≤ length a
      → Wrote a b (value_texts build i) at mid → mid + length (value_text (get_or build i 0)) ≤ length b
  unfolding value
  values-room = turn-room (value_texts build) value values-more

  pub values-turn : (i : ℕ) {a b c : List ℕ} {at mid r : ℕ} → Wrote a b (value_texts build i) at mid → Wrote b c (value_text (get_or build i 0)) mid r
      → Wrote a c (value_texts build (i + 1)) at r
  unfolding value
  values-turn = turn_more (value_texts build) value values-more
