-- The rules of a step on the parts of a head and on rows: j comes to follow i. They say of one entry what `eliminate` says of it.
use Rattle.std.specs.Prelude.{Bool, true, false, List, ◌≡◌, ℕ, suc, ◌<◌, eqb, length, get_or}
use Rattle.bounded.specs.Bool.{and, or, not, if}
use Rattle.words.specs.Word.{has}
use Rattle.network.specs.Pairs.{Stays}
use Rattle.pairs.specs.Pairs.{allows_of}
use Rattle.pairs.specs.Frames.{Words}
use Rattle.step_compose.specs.declared.Third.{Third}
use Rattle.step_compose.specs.Compose.{composed_at}

-- Rule 3, for x, whose leader was l: "Followers of j get i as leader, and so does j."
unfoldable pub leader_after : ℕ → ℕ → ℕ → ℕ → ℕ
leader_after i j x l = if (or (eqb x j) (eqb l (suc j))) (suc i) l

-- Rule 3 for another than j.
unfoldable pub led_after : ℕ → ℕ → ℕ → ℕ
led_after i j l = if (eqb l (suc j)) (suc i) l

-- "third option k stated with j", of which `others` are those stated with j.
unfoldable pub third_of : ℕ → ℕ → (ℕ → Bool) → ℕ → Bool
third_of i j others k = and (others k) (and (not (eqb k i)) (not (eqb k j)))

-- Rule 2, for x, which was stated with `others`; T are the third variables: "the pair i, k becomes stated .. The pair j, k is then unstated".
unfoldable pub stated_after : ℕ → ℕ → (ℕ → Bool) → ℕ → (ℕ → Bool) → ℕ → Bool
stated_after i j T x others y =
    if (or (and (eqb x i) (T y)) (and (eqb y i) (T x))) true
    (if (or (and (eqb x j) (T y)) (and (eqb y j) (T x))) false (others y))

-- The composition of rule 2 for the third variable k: ti is the new domain of i, and `was` says whether i, k was stated before.
abbrev pub composition : List ℕ → ℕ → ℕ → ℕ → ℕ → Bool → Third
composition domains i j ti k was = record { i = i; j = j; k = k; ti = ti; dj = get_or domains j 0; dk = get_or domains k 0; was = was }

-- Rule 2 on rows: value a of i goes with value c of the third variable k, where i was stated with `others`.
unfoldable pub made_at : ℕ → List ℕ → List ℕ → ℕ → ℕ → ℕ → ℕ → ℕ → ℕ → ℕ → Bool
made_at w rows domains others i j ti k a c = composed_at w rows (composition domains i j ti k (has others k)) a c

-- For each k of T the pair j, k has gone into the pair i, k, which allows what `made k` says. All other pairs are as before.
pub record MovedRows (w : ℕ) (before after : List ℕ) (i j : ℕ) (T : ℕ → Bool) (made : ℕ → ℕ → ℕ → Bool) : Type 0 where
  pub made_ik : (k a c : ℕ) → T k ≡ true → a < w → c < w → allows_of w after i k a c ≡ made k a c
  pub gone_jk : (k b c : ℕ) → T k ≡ true → b < w → c < w → allows_of w after j k b c ≡ false
  pub kept : (x y a b : ℕ) → Stays i j T x y → allows_of w after x y a b ≡ allows_of w before x y a b
  pub same_length : length after ≡ length before
  pub words : Words w before → Words w after
