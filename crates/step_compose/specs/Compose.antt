-- Rules 1 and 2 of the follow step on the array of rows: j is to follow i, k is a third variable.
use Rattle.std.specs.Prelude.{Bool, List, ◌≡◌, ℕ, ◌≤◌, ◌<◌, length}
use Rattle.bounded.specs.Bool.{and, implies}
use Rattle.bounded.specs.Fold.{some}
use Rattle.words.specs.Word.{has, word}
use Rattle.pairs.specs.Pairs.{variables, allows_of}
use Rattle.pairs.specs.Frames.{Words, Other}
use Rattle.step_compose.specs.declared.Third.{Third}

-- Rule 1: "The list of i loses each value that has no allowed partner in the list of j." di and dj are the two domains.
unfoldable pub supported_at : ℕ → List ℕ → ℕ → ℕ → ℕ → ℕ → ℕ
supported_at w rows i j di dj = word w (λ (a : ℕ). and (has di a) (some w (λ (b : ℕ). and (has dj b) (allows_of w rows i j a b))))

-- Rule 2: "It allows (a, c) exactly when a is in the new list of i, c is in the list of k, some b in the list of j goes with both,
-- and, if i, k was stated before, it allowed (a, c) before." `Third` names i, j, k, the new domain of i and those of j and k, and whether i, k was stated.
unfoldable pub composed_at : ℕ → List ℕ → Third → ℕ → ℕ → Bool
composed_at w rows t a c =
    and (and (has t.ti a) (has t.dk c))
    (and (some w (λ (b : ℕ). and (has t.dj b) (and (allows_of w rows t.i t.j a b) (allows_of w rows t.j t.k b c))))
    (implies t.was (allows_of w rows t.i t.k a c)))

-- Its three variables are apart.
pub record Apart (t : Third) : Type 0 where
  pub i_in : t.i < variables
  pub j_in : t.j < variables
  pub k_in : t.k < variables
  pub i_not_j : t.i ≡ t.j → ⊥
  pub j_not_k : t.j ≡ t.k → ⊥
  pub k_not_i : t.k ≡ t.i → ⊥

-- What the turn of a third variable k begins with: the pairs that rule 2 reads are still as they were before the step. `given` are the rows given to the
-- step, `before` those with which k's turn begins.
pub record Unread (w : ℕ) (given before : List ℕ) (t : Third) : Type 0 where
  pub same_ij : (a b : ℕ) → allows_of w before t.i t.j a b ≡ allows_of w given t.i t.j a b
  pub same_jk : (b c : ℕ) → allows_of w before t.j t.k b c ≡ allows_of w given t.j t.k b c
  pub same_ik : (a c : ℕ) → allows_of w before t.i t.k a c ≡ allows_of w given t.i t.k a c

-- The values of k below n are done: "It is proved that after each value the pair i, k allows what rule 2 says for that value and those below it, and for the
-- rest what it allowed before the step."
pub record Composing (w : ℕ) (given before after : List ℕ) (t : Third) (n : ℕ) : Type 0 where
  pub done : (a c : ℕ) → c < n → a < w → c < w → allows_of w after t.i t.k a c ≡ composed_at w given t a c
  pub left : (a c : ℕ) → n ≤ c → allows_of w after t.i t.k a c ≡ allows_of w given t.i t.k a c
  -- The pair k, i is the same from its other side.
  pub alike : (a c : ℕ) → allows_of w after t.k t.i c a ≡ allows_of w after t.i t.k a c
  -- Every other pair is as it was when k's turn began.
  pub rest : (x y a b : ℕ) → Other t.i t.k x y → allows_of w after x y a b ≡ allows_of w before x y a b
  pub size : length after ≡ length before
  pub words : Words w before → Words w after
