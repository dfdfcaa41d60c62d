-- What the tester, the completer and the verdict test and write, on lent arrays, for any number w of values. Where `leaders` is all zero every variable is judged as a free one:
-- so the tester asks of all what the completer asks of the free variables.
use Rattle.std.specs.Prelude.{Bool, true, List, ◌≡◌, ℕ, suc, pred, ◌≤◌, ◌<◌, eqb, ltb, length, get_or}
use Rattle.bounded.specs.Bool.{and, implies, not, if}
use Rattle.bounded.specs.Fold.{every, first}
use Rattle.words.specs.Word.{has, word}
use Rattle.pairs.specs.Pairs.{variables, allows_of}

-- Each value is below its size.
unfoldable pub values_below : ℕ → List ℕ → List ℕ → Bool
values_below n sizes values = every n (λ (i : ℕ). ltb (get_or values i 0) (get_or sizes i 0))

-- "each value is in its option's list", of free variables
unfoldable pub value_kept : ℕ → ℕ → ℕ → Bool
value_kept leader domain value = implies (eqb leader 0) (has domain value)

unfoldable pub values_kept : ℕ → List ℕ → List ℕ → List ℕ → Bool
values_kept n leaders domains values = every n (λ (i : ℕ). value_kept (get_or leaders i 0) (get_or domains i 0) (get_or values i 0))

-- "each stated pair of two live options allows its two values"
unfoldable pub pair_kept : ℕ → ℕ → ℕ → Bool → List ℕ → ℕ → ℕ → ℕ → ℕ → Bool
pair_kept w leader other stated rows i j a b = implies (and (eqb leader 0) (and (eqb other 0) stated)) (allows_of w rows i j a b)

unfoldable pub side_kept : ℕ → ℕ → List ℕ → ℕ → List ℕ → List ℕ → ℕ → Bool
side_kept w n leaders stated rows values i =
    every n (λ (j : ℕ). pair_kept w (get_or leaders i 0) (get_or leaders j 0) (has stated j) rows i j (get_or values i 0) (get_or values j 0))

unfoldable pub pairs_kept : ℕ → ℕ → List ℕ → List ℕ → List ℕ → List ℕ → Bool
pairs_kept w n leaders stated rows values = every n (λ (i : ℕ). side_kept w n leaders (get_or stated i 0) rows values i)

-- A pair is stated from both its variables, and no variable with itself.
abbrev pub Mirrored : List ℕ → Type 0
Mirrored stated = (i j : ℕ) → has (get_or stated i 0) j ≡ true → (i ≡ j → ⊥) × (has (get_or stated j 0) i ≡ true)

-- A free variable i goes, with its value, with the values of all the variables in `among`.
unfoldable pub among_kept : ℕ → ℕ → ℕ → List ℕ → List ℕ → ℕ → Bool
among_kept w leader among rows values i =
    implies (eqb leader 0) (every w (λ (j : ℕ). implies (has among j) (allows_of w rows i j (get_or values i 0) (get_or values j 0))))

-- The lowest value of a domain of i that goes with value a of l, or w.
unfoldable pub partner_of : ℕ → List ℕ → ℕ → ℕ → ℕ → ℕ → ℕ
partner_of w rows l i domain a = first w (λ (b : ℕ). and (has domain b) (allows_of w rows l i a b))

-- A free variable keeps its value, and a follower gets the partner of its leader's.
unfoldable pub completed_value : ℕ → List ℕ → List ℕ → List ℕ → List ℕ → ℕ → ℕ
completed_value w domains leaders rows values i =
    if (eqb (get_or leaders i 0) 0)
    (get_or values i 0)
    (partner_of w rows (pred (get_or leaders i 0)) i (get_or domains i 0) (get_or values (pred (get_or leaders i 0)) 0))

-- What the completer goes by: each leader is a free variable that has a value.
pub record Led (w n : ℕ) (leaders values : List ℕ) : Type 0 where
  pub led_n : n ≤ variables
  pub led_length : n ≤ length values
  pub leader_below : (i l : ℕ) → i < n → get_or leaders i 0 ≡ suc l → l < n
  pub leader_live : (i l : ℕ) → i < n → get_or leaders i 0 ≡ suc l → get_or leaders l 0 ≡ 0
  pub leader_value : (i l : ℕ) → i < n → get_or leaders i 0 ≡ suc l → get_or values l 0 < w

-- What it leaves: the first n values are completed, and the others are as before.
pub record Completed (w n : ℕ) (domains leaders rows before after : List ℕ) : Type 0 where
  pub same_length : length after ≡ length before
  pub value_completed : (i : ℕ) → i < n → get_or after i 0 ≡ completed_value w domains leaders rows before i
  pub value_past : (i : ℕ) → n ≤ i → get_or after i 0 ≡ get_or before i 0

-- What the completion of one value needs of the leader l of i, counted from 0.
pub record LeaderReady (w i l : ℕ) (values : List ℕ) : Type 0 where
  pub leader_in : l < variables
  pub leader_other : l ≡ i → ⊥
  pub leader_read : l < length values
  pub leader_fits : get_or values l 0 < w

-- A free variable has a value left.
unfoldable pub domain_open : ℕ → ℕ → Bool
domain_open leader domain = implies (eqb leader 0) (not (eqb domain 0))

unfoldable pub domains_open : ℕ → List ℕ → List ℕ → Bool
domains_open n leaders domains = every n (λ (i : ℕ). domain_open (get_or leaders i 0) (get_or domains i 0))

-- The lowest value of each domain, w where it is empty, and 0 past n.
unfoldable pub lowest_of : ℕ → ℕ → List ℕ → ℕ → ℕ
lowest_of w n domains i = if (ltb i n) (first w (has (get_or domains i 0))) 0

-- The free variables as a word.
unfoldable pub free_word : ℕ → List ℕ → ℕ
free_word n leaders = word n (λ (i : ℕ). eqb (get_or leaders i 0) 0)

-- A free variable is stated with none of `free`.
unfoldable pub side_apart : ℕ → ℕ → ℕ → ℕ → Bool
side_apart w leader stated free = implies (eqb leader 0) (eqb (word w (λ (j : ℕ). and (has stated j) (has free j))) 0)

-- "no two live options are stated together"
unfoldable pub free_apart : ℕ → List ℕ → List ℕ → Bool
free_apart n leaders stated =
    every n (λ (i : ℕ).
    every n (λ (j : ℕ).
    implies (and (eqb (get_or leaders i 0) 0) (eqb (get_or leaders j 0) 0)) (not (has (get_or stated i 0) j))))

-- A free variable with a full domain: what the writer asks of each, "a follower exists or a list is not full".
unfoldable pub fresh_value : ℕ → ℕ → ℕ → ℕ → Bool
fresh_value w leader domain size = and (eqb leader 0) (eqb domain (word w (λ (v : ℕ). ltb v size)))

unfoldable pub fresh_parts : ℕ → ℕ → List ℕ → List ℕ → List ℕ → Bool
fresh_parts w n sizes domains leaders = every n (λ (i : ℕ). fresh_value w (get_or leaders i 0) (get_or domains i 0) (get_or sizes i 0))
