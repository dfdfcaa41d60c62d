-- The survey: how many solutions there are, and which values they have. An open domain may hold values that no solution has, "parts that nobody can fit".
use Rattle.std.specs.Prelude.{Bool, true, false, ◌↔◌, ◌≡◌, ℕ, zero, suc, pred, ◌*◌, ◌≤◌, ◌<◌, min, eqb, ltb}
use Rattle.bounded.specs.Bool.{and, or, implies, not, bit, if}
use Rattle.bounded.specs.Fold.{every, some, sum, product, count}
use Rattle.network.specs.Network.{Network, free, partner, solves}
use Rattle.network.specs.Completion.{lowest, NONE, BUILT, verdict}
use Rattle.network.specs.Count.{put, solution_count, choice_count}
use Rattle.network.specs.Search.{choice_product}

-- ---- what it means

-- Some tuple of values below the sizes s at 0 to n - 1 passes p; past n a tuple is as f.
unfoldable pub some_tuple : ℕ → (ℕ → ℕ) → ((ℕ → ℕ) → Bool) → (ℕ → ℕ) → Bool
some_tuple zero s p f = p f
some_tuple (suc n) s p f = some (s n) (λ (v : ℕ). some_tuple n s p (put f n v))

-- Some solution that passes p has v at i. Past n nothing is used.
unfoldable pub used_value : Network → ((ℕ → ℕ) → Bool) → ℕ → ℕ → Bool
used_value N p i v =
    and (ltb i N.n)
    (some_tuple N.n N.size (λ (f : ℕ → ℕ). and (and (solves N f) (p f)) (eqb (f i) v)) (λ (i : ℕ). 0))

-- ---- what refuses it

-- "stated with another live option"
unfoldable pub tied : Network → ℕ → Bool
tied N i = and (free N i) (some N.n (λ (j : ℕ). and (free N j) (N.stated i j)))

-- How many values of i are searched: those in its domain, if it is tied. "An option that nothing ties down multiplies the builds and costs no search; an
-- empty list of any live option, tied or not, makes the product 0".
unfoldable pub tied_values : Network → ℕ → ℕ
tied_values N i = if (free N i) (if (tied N i) (count (N.size i) (N.domain i)) (bit (some (N.size i) (N.domain i)))) 1

unfoldable pub tied_product : Network → ℕ
tied_product N = product N.n (tied_values N)

-- 23 "when the product of the list sizes of those live options that are stated with another live option exceeds 1,000,000". (9 goes by the state.)
unfoldable pub survey_refusal : Network → ℕ
survey_refusal N = if (ltb 1000000 (tied_product N)) 23 0

-- ---- how it is done

-- A number of choices, and the values that they have.
pub record Tally : Type 0 where
  pub count : ℕ
  pub used : ℕ → ℕ → Bool

-- No choice.
unfoldable pub nothing : Tally
nothing = record { count = 0; used = λ (i v : ℕ). false }

-- The choices of t 0, t 1, .., t (n - 1): counts are added and words are joined.
unfoldable pub joined : ℕ → (ℕ → Tally) → Tally
joined n t = record { count = sum n (λ (v : ℕ). (t v).count); used = λ (i u : ℕ). some n (λ (v : ℕ). (t v).used i u) }

-- The choices of t with v at k before them: v is used where there is any.
unfoldable pub taken : ℕ → ℕ → Tally → Tally
taken k v t = record { count = t.count; used = λ (i u : ℕ). or (t.used i u) (and (ltb 0 t.count) (and (eqb i k) (eqb u v))) }

-- The domains once k has taken the value v: "values that an earlier choice forbids are not tried".
unfoldable pub narrowed_by : Network → (ℕ → ℕ → Bool) → ℕ → ℕ → ℕ → ℕ → Bool
narrowed_by N D k v j u = and (D j u) (implies (N.stated k j) (N.allows k j v u))

-- The `left` variables from k on are to be chosen yet, those of T alone, within the domains D.
unfoldable pub tallied : Network → (ℕ → Bool) → ℕ → ℕ → (ℕ → ℕ → Bool) → Tally
tallied N T zero k D = record { count = 1; used = λ (i v : ℕ). false }
tallied N T (suc left) k D =
    if (T k)
    (joined (N.size k) (λ (v : ℕ). if (D k v) (taken k v (tallied N T left (suc k) (narrowed_by N D k v))) nothing))
    (tallied N T left (suc k) D)

-- ---- variables of one value come first

-- Such a variable costs no search, but each choice before it would pass through it: its value narrows all others before any is chosen, and it is tied no more.
unfoldable pub single : Network → ℕ → Bool
single N i = and (tied N i) (eqb (count (N.size i) (N.domain i)) 1)

unfoldable pub settled_domain : Network → ℕ → ℕ → Bool
settled_domain N j u =
    and (N.domain j u) (every N.n (λ (i : ℕ). implies (and (single N i) (N.stated i j)) (N.allows i j (lowest N i) u)))

unfoldable pub settled : Network → Network
settled N =
    record {
      n = N.n;
      size = N.size;
      domain = settled_domain N;
      leader = N.leader;
      stated = λ (i j : ℕ). and (N.stated i j) (and (not (single N i)) (not (single N j)));
      allows = N.allows;
    }

-- How many values a variable that is not of T multiplies the choices by: those in its domain, if it is free.
unfoldable pub besides : Network → (ℕ → Bool) → ℕ → ℕ
besides N T i = if (and (free N i) (not (T i))) (count (N.size i) (N.domain i)) 1

-- The values of a free variable: those of the tally if it is tied, and else its domain.
unfoldable pub free_used : Network → Tally → ℕ → ℕ → Bool
free_used M t i v = if (tied M i) (t.used i v) (M.domain i v)

-- An eliminated variable has the partners of its leader's values.
unfoldable pub any_used : Network → Tally → ℕ → ℕ → Bool
any_used N t i v =
    if (free N i)
    (free_used (settled N) t i v)
    (some (N.size (pred (N.leader i))) (λ (a : ℕ). and (free_used (settled N) t (pred (N.leader i)) a) (partner N (pred (N.leader i)) i a v)))

-- How many choices there are of all free variables.
unfoldable pub all_count : Network → Tally → ℕ
all_count N t = t.count * product N.n (besides (settled N) (tied (settled N)))

-- From the choices of the tied variables to those of all: nothing, where there is none.
unfoldable pub spread : Network → Tally → Tally
spread N t = if (eqb (all_count N t) 0) nothing (record { count = all_count N t; used = any_used N t })

-- "the group of tied options is searched once for both answers". An empty domain says nothing before any value is tried.
unfoldable pub surveyed : Network → Tally
surveyed N = if (eqb (tied_product N) 0) nothing (spread N (tallied (settled N) (tied (settled N)) N.n 0 (settled_domain N)))

-- "The count is capped at 2^64 - 1, and a flag says that there are more."
unfoldable pub count_limit : ℕ
count_limit = 18446744073709551615

unfoldable pub capped_count : Network → ℕ
capped_count N = min (choice_count N) count_limit

unfoldable pub more_than_count : Network → Bool
more_than_count N = ltb count_limit (choice_count N)

-- ---- what is true of it

-- A choice of the variables of T from k on, within the domains D. (`ChoiceFrom` is the one of all free variables.)
pub record Picks (N : Network) (T : ℕ → Bool) (D : ℕ → ℕ → Bool) (k : ℕ) (f : ℕ → ℕ) : Type 0 where
  pub listed : (i : ℕ) → k ≤ i → i < N.n → T i ≡ true → D i (f i) ≡ true
  pub allowed : (i j : ℕ) → k ≤ i → i < j → j < N.n → T i ≡ true → T j ≡ true → N.stated i j ≡ true → N.allows i j (f i) (f j) ≡ true

-- A tally is right of the choices of T from k on: it has a count exactly when there is one, and exactly their values.
pub record Tallies (N : Network) (T : ℕ → Bool) (D : ℕ → ℕ → Bool) (k : ℕ) (t : Tally) : Type 0 where
  pub some_exactly : (1 ≤ t.count) ↔ ((f : ℕ → ℕ) × Picks N T D k f)
  pub used_exactly : (i v : ℕ) → (t.used i v ≡ true) ↔ ((f : ℕ → ℕ) × (k ≤ i) × (i < N.n) × (T i ≡ true) × (f i ≡ v) × Picks N T D k f)

-- The survey is right of N: over choices and over solutions.
pub record Surveys (N : Network) (t : Tally) : Type 0 where
  pub count_is : t.count ≡ choice_count N
  pub used_is : (i v : ℕ) → t.used i v ≡ used_value N (λ (f : ℕ → ℕ). true) i v
  -- "a value is in the word exactly when some build has it"
  pub used_exactly : (i v : ℕ) → (t.used i v ≡ true) ↔ ((f : ℕ → ℕ) × (i < N.n) × (solves N f ≡ true) × (f i ≡ v))

-- And where M stands for N with p added (`Keeps`), of the solutions of N that pass p:
pub record Surveyed (N M : Network) (p : (ℕ → ℕ) → Bool) : Type 0 where
  pub count_is : (surveyed M).count ≡ solution_count N p
  pub used_is : (i v : ℕ) → (surveyed M).used i v ≡ used_value N p i v
  -- "a value outside the word is in no build of the sheet, one inside is in one"
  pub outside_in_none : (i v : ℕ) → (surveyed M).used i v ≡ false → (f : ℕ → ℕ) → i < N.n → and (solves N f) (p f) ≡ true → f i ≡ v → ⊥
  pub inside_in_one : (i v : ℕ) → (surveyed M).used i v ≡ true → (f : ℕ → ℕ) × (i < N.n) × (and (solves N f) (p f) ≡ true) × (f i ≡ v)

-- The survey and the verdict.
pub record SurveyVerdict (N : Network) : Type 0 where
  -- "Where the verdict is BUILT: the count is the product of the live list sizes, and the words are the live lists and .. the followers' lists"
  pub built_count : verdict N ≡ BUILT → (surveyed N).count ≡ choice_product N
  pub built_used : verdict N ≡ BUILT → (i v : ℕ) → (surveyed N).used i v ≡ N.domain i v
  -- "NONE .. : 0 and empty words"
  pub none_count : verdict N ≡ NONE → (surveyed N).count ≡ 0
  pub none_used : verdict N ≡ NONE → (i v : ℕ) → (surveyed N).used i v ≡ false
  -- and no refusal, in either case.
  pub settled_accepted : (verdict N ≡ BUILT → survey_refusal N ≡ 0) × (verdict N ≡ NONE → survey_refusal N ≡ 0)
