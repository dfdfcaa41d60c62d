-- The network of a sheet: its solutions are read off the tables one by one.
use mathlib.Core.Bool.{Bool, true, false, false≢true}
use mathlib.Core.List.{List, [], ◌∷◌}
use mathlib.Core.Path.{◌≡◌, refl, sym, ◌∙◌, ap}
use Prim.Native.Nat.{ℕ, suc, ◌-◌, ◌≤◌, ◌<◌}
use native.Mathlib.Omega.{arith}
use lib.Dec.{ltb}
use lib.ListN.{length, get_or}
use borrow.Author.Tests.{eq-eqb}
use Rattle.bounded.specs.Bool.{and}
use Rattle.bounded.specs.Fold.{every}
use Rattle.bounded.proofs.Bool.{by_cases, clash, bool-ext, not-true→false, and_i, and_l, and_r, or_l, or_r, or_elim}
use Rattle.bounded.proofs.Bool.{implies-i, implies-e}
use Rattle.bounded.proofs.Fold.{every-i, every-e}
use Rattle.words.specs.Word.{has}
use Rattle.network.specs.Network.{in_domains, pairs_allow, solves}
use Rattle.words.proofs.Laws.{has-zero}
use Rattle.network.specs.Sheet.{Table, Sheet, is_for, tabled, row_for, network_of}
use Rattle.network.proofs.Tables.{is_for-e, tabled-here, tabled_later, tabled-cases, row_for-here, row_for-there, row_for-none}

-- Tables of pairs i, j with i before j, both below n, and none twice.
pub data Proper (n : ℕ) : List Table → Type 0 where
  proper_none : Proper n []
  proper_more : {t : Table} {ts : List Table} → 1 ≤ t.first → t.first < t.second → t.second ≤ n
      → ((i j : ℕ) → is_for t i j ≡ true → tabled ts i j ≡ false)
      → Proper n ts
      → Proper n (t ∷ ts)

-- A table allows the values that f has: "the row for its value of a has the bit for its value of b".
unfoldable pub allowed_by : (ℕ → ℕ) → Table → Bool
allowed_by f t = has (get_or t.rows (f (t.first - 1)) 0) (f (t.second - 1))

unfoldable pub all_allow : (ℕ → ℕ) → List Table → Bool
all_allow f [] = true
all_allow f (t ∷ ts) = and (allowed_by f t) (all_allow f ts)

pub tabled-ordered : {n : ℕ} {ts : List Table} → Proper n ts → (i j : ℕ) → tabled ts i j ≡ true → (i < j) × (j < n)
unfolding tabled
tabled-ordered proper_none i j h = absurd (false≢true h)
tabled-ordered (proper_more {t = t} {ts = ts} p q r d ps) i j h =
    tabled-cases t ts i j h
    (λ e. (omega (arith, (is_for-e t i j e).0, (is_for-e t i j e).1), omega (arith, (is_for-e t i j e).1)))
    (tabled-ordered ps i j)

-- A pair is not tabled from both sides.
pub tabled-one-way : {n : ℕ} {ts : List Table} → Proper n ts → (i j : ℕ) → tabled ts i j ≡ true → tabled ts j i ≡ false
tabled-one-way p i j h =
    let l = tabled-ordered p i j h in
    not-true→false _ λ k. let m = tabled-ordered p j i k in omega arith

module _ (f : ℕ → ℕ) where
  row_here : (t : Table) (ts : List Table) (i j : ℕ) → is_for t i j ≡ true → has (row_for (t ∷ ts) i j (f i)) (f j) ≡ allowed_by f t
  unfolding allowed_by
  row_here t ts i j e =
      let a : t.first - 1 ≡ i = omega (arith, (is_for-e t i j e).0) in
      let b : t.second - 1 ≡ j = omega (arith, (is_for-e t i j e).1) in
      rw (row_for-here t ts i j (f i) e, a, b)

  -- Where all tables allow the values of f, so does the row of each pair,
  all-allow-row : (ts : List Table) → all_allow f ts ≡ true → (i j : ℕ) → tabled ts i j ≡ true → has (row_for ts i j (f i)) (f j) ≡ true
  unfolding all_allow tabled
  all-allow-row [] h i j k = absurd (false≢true k)
  all-allow-row (t ∷ ts) h i j k =
      by_cases (is_for t i j)
      (λ e. row_here t ts i j e ∙ and_l _ _ h)
      (λ e. rw (row_for-there t ts i j (f i) e)
      (all-allow-row ts (and_r _ _ h) i j (tabled-cases t ts i j k (λ y. clash y e) (λ y. y))))

  -- and the other way round.
  row-all-allow : {n : ℕ} {ts : List Table} → Proper n ts → ((i j : ℕ) → tabled ts i j ≡ true → has (row_for ts i j (f i)) (f j) ≡ true)
      → all_allow f ts ≡ true
  unfolding all_allow is_for
  row-all-allow proper_none h = refl
  row-all-allow (proper_more {t = t} {ts = ts} p q r d ps) h =
      let i = t.first - 1 in
      let j = t.second - 1 in
      let e : is_for t i j ≡ true = and_i _ _ (eq-eqb t.first (suc i) (omega arith)) (eq-eqb t.second (suc j) (omega arith)) in
      and_i _ _ (sym (row_here t ts i j e) ∙ h i j (tabled-here t ts i j e))
      (row-all-allow ps λ i j k.
      let other : is_for t i j ≡ false = not-true→false _ (λ y. clash k (d i j y)) in
      rw (row_for-there t ts i j (f i) other) at (h i j (tabled_later t ts i j k)))

-- A pair that has a table is allowed what its row has.
pub allows-of-row : (s : Sheet) (n : ℕ) → Proper n s.tables → (i j a b : ℕ) → tabled s.tables i j ≡ true
    → (network_of s).allows i j a b ≡ has (row_for s.tables i j a) b
unfolding network_of
allows-of-row s n p i j a b h =
    let z : has (row_for s.tables j i b) a ≡ false = rw (row_for-none s.tables j i b (tabled-one-way p i j h)) (has-zero a) in
    bool-ext _ _ (λ k. or_elim _ _ k (λ x. x) (λ x. clash x z)) (or_l _ _)

-- "each below that option's size, and in every table of the file the row for its value of a has the bit for its value of b"
pub solves-sheet : (s : Sheet) (f : ℕ → ℕ) → Proper (length s.sizes) s.tables
    → solves (network_of s) f ≡ and (every (length s.sizes) (λ (i : ℕ). ltb (f i) (get_or s.sizes i 0))) (all_allow f s.tables)
unfolding solves in_domains pairs_allow network_of
solves-sheet s f p =
    let n = length s.sizes in
    let ts = s.tables in
    ap (and _)
    (bool-ext _ _
    (λ h. row-all-allow f p λ i j k.
    let l = tabled-ordered p i j k in
    let pair = every-e n _ (every-e n _ h i (omega arith)) j l.1 in
    sym (allows-of-row s n p i j (f i) (f j) k) ∙ implies-e _ _ pair (or_l _ _ k))
    (λ h. every-i n _ λ i li. every-i n _ λ j lj. implies-i _ _ λ k.
    or_elim _ _ k (λ x. or_l _ _ (all-allow-row f ts h i j x)) (λ x. or_r _ _ (all-allow-row f ts h j i x))))
