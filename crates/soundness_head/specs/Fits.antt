-- What soundness asks of a head by itself: the tests that the functions make, in the words of the arrays. Each looks at every bit of a word.
use Rattle.std.specs.Prelude.{Bool, List, ℕ, eqb, leb, ltb, get_or}
use Rattle.bounded.specs.Bool.{and, implies, not, if}
use Rattle.bounded.specs.Fold.{every}
use Rattle.words.specs.Word.{width, has, word}
use Rattle.pairs.specs.Pairs.{variables}
use Rattle.head.specs.declared.Head.{Head}
use Rattle.head.specs.Held.{values_at_most}

-- "sizes are 1 to 16 .. and all entries past n are zero", and document 02: "Sizes may go to 32, in a sound state too."
unfoldable pub size_fits : ℕ → ℕ → ℕ → Bool
size_fits n i size = if (ltb i n) (and (leb 1 size) (leb size values_at_most)) (eqb size 0)

unfoldable pub sizes_all_fit : ℕ → List ℕ → Bool
sizes_all_fit n sizes = every variables (λ (i : ℕ). size_fits n i (get_or sizes i 0))

-- A word of w bits has no member at or above k.
unfoldable pub within : ℕ → ℕ → ℕ → Bool
within w x k = every w (λ (v : ℕ). implies (has x v) (ltb v k))

-- "each list lies within its size"
unfoldable pub domains_fit : List ℕ → List ℕ → Bool
domains_fit sizes domains = every variables (λ (i : ℕ). within width (get_or domains i 0) (get_or sizes i 0))

-- The variables whose words have i.
unfoldable pub stated_with : List ℕ → ℕ → ℕ
stated_with stated i = word variables (λ (j : ℕ). has (get_or stated j 0) i)

-- The pairs of i lie below n, "no option is paired with itself", and the others say the same of i: "a pair seen from its two options says the same".
-- Past n there is none.
unfoldable pub variable_fits : ℕ → List ℕ → ℕ → Bool
variable_fits n stated i =
    if (ltb i n)
    (and (within width (get_or stated i 0) n) (and (not (has (get_or stated i 0) i)) (eqb (get_or stated i 0) (stated_with stated i))))
    (eqb (get_or stated i 0) 0)

unfoldable pub pairs_fit : ℕ → List ℕ → Bool
pairs_fit n stated = every variables (variable_fits n stated)

-- All that the head says by itself, in the order of the code: "n is 1 to 16" first.
unfoldable pub head_fits : Head → Bool
head_fits h =
    and (leb 1 h.n)
    (and (leb h.n variables)
    (and (sizes_all_fit h.n h.sizes) (and (domains_fit h.sizes h.domains) (pairs_fit h.n h.stated))))
