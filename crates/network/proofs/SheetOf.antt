-- The sheet of a network and the network of a sheet: `sheet_of` and `network_of`, read through look-ups of tables and rows.
use mathlib.Core.Bool.{Bool, true, false}
use mathlib.Core.List.{List, [], ◌∷◌, ◌++◌}
use mathlib.Core.Path.{◌≡◌, refl, sym, ◌∙◌, ap, ap₂}
use Prim.Native.Nat.{ℕ, zero, suc, ◌+◌, ◌-◌, ◌≤◌, ◌<◌}
use native.Mathlib.Omega.{arith}
use lib.Dec.{eqb, ltb}
use lib.ListN.{length, get_or, get_or-eq_default}
use borrow.Author.Tests.{lt-ltb, ltb-true, ltb-false, eqb-true, eqb-false}
use Rattle.bounded.specs.Bool.{and, or, if}
use Rattle.bounded.proofs.Bool.{by_cases, clash, bool-ext, not-true→false}
use Rattle.bounded.proofs.Bool.{and_i, and_l, and_r, true-and, or_l, or_r, or_elim, or-false-i, or_comm}
use Rattle.bounded.proofs.Fold.{every-i, every-e}
use Rattle.bounded.proofs.Table.{length-tabulate, get_d_tabulate, get_d-tabulate-past}
use Rattle.words.specs.Word.{has}
use Rattle.words.proofs.Laws.{has-zero, has_all}
use Rattle.network.specs.Network.{Network}
use Rattle.network.specs.Sound.{Sound}
use Rattle.network.specs.Sheet.{Table, Sheet, is_for, tabled, row_for, network_of, collect, table_of, sheet_of, fresh}
use Rattle.network.proofs.Sound.{free-e, free-i}
use Rattle.network.proofs.Tables.{is_for-e, is_for-i, tabled-here, row_for-here, row_for-none, row-tabled}

-- Networks are equal where all their parts are.
pub network-ext : (N M : Network) → N.n ≡ M.n → ((i : ℕ) → N.size i ≡ M.size i) → ((i a : ℕ) → N.domain i a ≡ M.domain i a)
    → ((i : ℕ) → N.leader i ≡ M.leader i) → ((i j : ℕ) → N.stated i j ≡ M.stated i j)
    → ((i j a b : ℕ) → N.allows i j a b ≡ M.allows i j a b)
    → N ≡ M
network-ext N M n size domain leader stated allows = λ t.
    record {
      n = n t;
      size = λ i. size i t;
      domain = λ i a. domain i a t;
      leader = λ i. leader i t;
      stated = λ i j. stated i j t;
      allows = λ i j a b. allows i j a b t;
    }

-- ---- fresh networks

-- No variable has a leader.
pub fresh-leader : (N : Network) → Sound N → fresh N ≡ true → (i : ℕ) → N.leader i ≡ 0
unfolding fresh
fresh-leader N S F i =
    by_cases (ltb i N.n)
    (λ t. free-e N i (and_l _ _ (every-e N.n _ F i (ltb-true _ _ t))))
    (λ t. S.leader_past i (ltb-false _ _ t))

-- The domains are full.
pub fresh-domain : (N : Network) → Sound N → fresh N ≡ true → (i a : ℕ) → N.domain i a ≡ ltb a (N.size i)
unfolding fresh
fresh-domain N S F i a =
    bool-ext _ _
    (λ d. lt-ltb _ _ (S.domain_in i a d))
    (λ t. by_cases (ltb i N.n)
    (λ l. every-e (N.size i) _ (and_r _ _ (every-e N.n _ F i (ltb-true _ _ l))) a (ltb-true _ _ t))
    (λ l. absurd (let x : ⊥ = omega (arith, ltb-true a (N.size i) t, S.size_past i (ltb-false _ _ l)) in x)))

pub fresh-i : (N : Network) → ((i : ℕ) → N.leader i ≡ 0) → ((i a : ℕ) → N.domain i a ≡ ltb a (N.size i)) → fresh N ≡ true
unfolding fresh
fresh-i N leader domain =
    every-i N.n _ (λ i _. and_i _ _ (free-i N i (leader i)) (every-i (N.size i) _ (λ a l. domain i a ∙ lt-ltb a (N.size i) l)))

-- Two lists of tables have the same at i and j.
pub record Same (i j : ℕ) (ts us : List Table) : Type 0 where
  pub table : tabled ts i j ≡ tabled us i j
  pub row : (a : ℕ) → row_for ts i j a ≡ row_for us i j a

module _ (i j : ℕ) where
  -- A table is looked for in the first part, and then in the second.
  append-none : (ts us : List Table) → tabled ts i j ≡ false → Same i j (ts ++ us) us
  unfolding tabled row_for or if
  append-none [] us h = record { table = refl; row = λ a. refl }
  append-none (t ∷ ts) us h =
      by_cases (is_for t i j)
      (λ e. clash refl (rw e at h))
      (λ e. let s : Same i j (ts ++ us) us = append-none ts us (rw e at h) in
      record { table = rw e s.table; row = λ a. rw e (s.row a) })

  append-only : (ts us : List Table) → tabled us i j ≡ false → Same i j (ts ++ us) ts
  unfolding tabled row_for or if
  append-only [] us h = record { table = h; row = λ a. row_for-none us i j a h }
  append-only (t ∷ ts) us h =
      let s : Same i j (ts ++ us) ts = append-only ts us h in
      record { table = rw s.table; row = λ a. rw (s.row a) }

  -- Nothing is collected for i and j where no part has it,
  collect-none : (f : ℕ → List Table) (c k : ℕ) → ((l : ℕ) → k ≤ l → l < k + c → tabled (f l) i j ≡ false)
      → tabled (collect c k f) i j ≡ false
  unfolding collect tabled
  collect-none f zero k h = refl
  collect-none f (suc c) k h =
      (append-none (f k) _ (h k (omega arith) (omega arith))).table ∙ collect-none f c (suc k) (λ l a b. h l (omega arith) (omega arith))

  -- and it is as in one part where no other has it.
  collect-one : (f : ℕ → List Table) (c k m : ℕ) → k ≤ m → m < k + c → ((l : ℕ) → (l ≡ m → ⊥) → tabled (f l) i j ≡ false)
      → Same i j (collect c k f) (f m)
  unfolding collect
  collect-one f zero k m a b h = absurd (let x : ⊥ = omega arith in x)
  collect-one f (suc c) k m a b h =
      by_cases (eqb k m)
      (λ t. let e : k ≡ m = eqb-true k m t in
      rw (← e) (append-only (f k) _ (collect-none f c (suc k) (λ l p q. h l (λ r. let x : ⊥ = omega arith in x)))))
      (λ t. let d : k ≡ m → ⊥ = eqb-false k m t in
      let s = append-none (f k) (collect c (suc k) f) (h k d) in
      let r : Same i j (collect c (suc k) f) (f m) = collect-one f c (suc k) m (omega arith) (omega arith) h in
      record { table = s.table ∙ r.table; row = λ a. s.row a ∙ r.row a })

-- ---- the tables of a network

module _ (N : Network) where
  -- The table of x and y is for no other pair.
  table_of-other : (x y i j : ℕ) → (x ≡ i → y ≡ j → ⊥) → tabled (table_of N x y) i j ≡ false
  unfolding table_of tabled if
  table_of-other x y i j h =
      by_cases (N.stated x y)
      (λ t. rw t (or-false-i _ _ (not-true→false _ (λ e. let p = is_for-e _ i j e in h (omega arith) (omega arith))) refl))
      (λ t. rw t)

  -- It is there where they are stated together.
  table_of-own : (i j : ℕ) → tabled (table_of N i j) i j ≡ N.stated i j
  unfolding table_of tabled if
  table_of-own i j = by_cases (N.stated i j) (λ t. rw t (tabled-here _ [] i j (is_for-i _ i j refl refl))) (λ t. rw t)

  -- A pair in order is looked up in its own table, and no other has a table.
  tables-own : (i j : ℕ) → i < j → j < N.n → Same i j (sheet_of N).tables (table_of N i j)
  unfolding sheet_of
  tables-own i j l m =
      let inner : Same i j (collect (N.n - suc i) (suc i) (table_of N i)) (table_of N i j) =
      collect-one i j (table_of N i) (N.n - suc i) (suc i) j l (omega arith) (λ y d. table_of-other i y i j (λ _. d)) in
      let outer = collect-one i j (λ (x : ℕ). collect (N.n - suc x) (suc x) (table_of N x)) N.n 0 i (omega arith) (omega arith)
      (λ x d. collect-none i j (table_of N x) (N.n - suc x) (suc x) (λ y _ _. table_of-other x y i j (λ e _. d e))) in
      record { table = outer.table ∙ inner.table; row = λ a. outer.row a ∙ inner.row a }

  tables-none : (i j : ℕ) → (i < j → j < N.n → ⊥) → tabled (sheet_of N).tables i j ≡ false
  unfolding sheet_of
  tables-none i j h =
      collect-none i j _ N.n 0 (λ x _ b. collect-none i j (table_of N x) (N.n - suc x) (suc x) (λ y c d.
      table_of-other x y i j (λ e f. h (omega arith) (omega arith))))

  -- What is known of pairs in order below n, and of all others, is known of every pair.
  in_order : {A : Type 0} (i j : ℕ) → (i < j → j < N.n → A) → ((i < j → j < N.n → ⊥) → A) → A
  in_order i j f g =
      by_cases (and (ltb i j) (ltb j N.n))
      (λ t. f (ltb-true _ _ (and_l _ _ t)) (ltb-true _ _ (and_r _ _ t)))
      (λ t. g (λ l m. clash (and_i _ _ (lt-ltb _ _ l) (lt-ltb _ _ m)) t))

  pub n-sheet_of : length (sheet_of N).sizes ≡ N.n
  unfolding sheet_of
  n-sheet_of = length-tabulate N.n N.size

module _ (N : Network) (S : Sound N) where
  -- The rows of a table have what its pair allows.
  row-own : (i j a b : ℕ) → has (row_for (table_of N i j) i j a) b ≡ N.allows i j a b
  unfolding table_of row_for if
  row-own i j a b =
      by_cases (N.stated i j)
      (λ t. rw t
      (ap (λ (r : ℕ). has r b) (row_for-here _ [] i j a (is_for-i _ i j refl refl))
      ∙ by_cases (ltb a (N.size i))
      (λ l. ap (λ (r : ℕ). has r b) (get_d_tabulate (N.size i) _ a 0 (ltb-true _ _ l))
      ∙ has_all (N.size j) _ b (λ m. not-true→false _ (λ r. let x : ⊥ = omega (arith, S.allows_in i j a b r) in x)))
      (λ l. ap (λ (r : ℕ). has r b) (get_d-tabulate-past (N.size i) _ a 0 (ltb-false _ _ l))
      ∙ nothing (λ r. let x : ⊥ = omega (arith, S.allows_in i j a b r, ltb-false a (N.size i) l) in x))))
      (λ t. rw t (nothing (λ r. clash (S.allows_stated i j a b r) t)))
    where
      nothing : (N.allows i j a b ≡ true → ⊥) → has 0 b ≡ N.allows i j a b
      nothing r = has-zero b ∙ sym (not-true→false _ r)

  -- So the tables are those of the stated pairs, in order, and their rows have what these allow.
  pub tabled-sheet_of : (i j : ℕ) → tabled (sheet_of N).tables i j ≡ and (ltb i j) (N.stated i j)
  tabled-sheet_of i j =
      in_order N i j
      (λ l m. (tables-own N i j l m).table ∙ table_of-own N i j ∙ rw (lt-ltb i j l) (sym (true-and _)))
      (λ h. tables-none N i j h ∙ sym (not-true→false _ (λ t. h (ltb-true _ _ (and_l _ _ t)) (S.stated_in i j (and_r _ _ t)).1)))

  pub row-sheet_of : (i j a b : ℕ) → has (row_for (sheet_of N).tables i j a) b ≡ and (ltb i j) (N.allows i j a b)
  row-sheet_of i j a b =
      in_order N i j
      (λ l m. ap (λ (r : ℕ). has r b) ((tables-own N i j l m).row a) ∙ row-own i j a b ∙ rw (lt-ltb i j l) (sym (true-and _)))
      (λ h. ap (λ (r : ℕ). has r b) (row_for-none _ i j a (tables-none N i j h)) ∙ has-zero b
      ∙ sym (not-true→false _ (λ t. h (ltb-true _ _ (and_l _ _ t)) (S.stated_in i j (S.allows_stated i j a b (and_r _ _ t))).1)))

  pub size-sheet_of : (i : ℕ) → get_or (sheet_of N).sizes i 0 ≡ N.size i
  unfolding sheet_of
  size-sheet_of i =
      by_cases (ltb i N.n)
      (λ t. get_d_tabulate N.n N.size i 0 (ltb-true _ _ t))
      (λ t. get_d-tabulate-past N.n N.size i 0 (ltb-false _ _ t) ∙ sym (S.size_past i (ltb-false _ _ t)))

-- A test that says the same from both sides is known from the side in order, but where both are one.
both_sides : (i j : ℕ) (p q : Bool) → (i ≡ j → p ≡ false) → p ≡ q → or (and (ltb i j) p) (and (ltb j i) q) ≡ p
both_sides i j p q d e =
    bool-ext _ _
    (λ h. or_elim _ _ h (λ t. and_r _ _ t) (λ t. e ∙ and_r _ _ t))
    (λ h. by_cases (ltb i j)
    (λ t. or_l _ _ (and_i _ _ t h))
    (λ t. by_cases (ltb j i)
    (λ r. or_r _ _ (and_i _ _ r (sym e ∙ h)))
    (λ r. clash h (d (omega (arith, ltb-false i j t, ltb-false j i r))))))

-- A fresh sound network is the network of its sheet.
pub network_of-sheet_of : (N : Network) → Sound N → fresh N ≡ true → network_of (sheet_of N) ≡ N
unfolding network_of
network_of-sheet_of N S F =
    network-ext (network_of (sheet_of N)) N
    (n-sheet_of N)
    (size-sheet_of N S)
    (λ i a. ap (λ (k : ℕ). ltb a k) (size-sheet_of N S i) ∙ sym (fresh-domain N S F i a))
    (λ i. sym (fresh-leader N S F i))
    (λ i j. ap₂ or (tabled-sheet_of N S i j) (tabled-sheet_of N S j i)
    ∙ both_sides i j _ _ (λ e. rw e (S.no_self j)) (S.stated_sym i j))
    (λ i j a b. ap₂ or (row-sheet_of N S i j a b) (row-sheet_of N S j i b a)
    ∙ both_sides i j _ _ (λ e. not-true→false _ (λ r. clash (S.allows_stated i j a b r) (rw e (S.no_self j)))) (S.allows_sym i j a b))

-- ---- the network of a sheet

-- What a sheet must be for its network to be sound, said of look-ups.
pub record Fits (s : Sheet) : Type 0 where
  pub some_variable : 1 ≤ length s.sizes
  pub some_value : (i : ℕ) → i < length s.sizes → 1 ≤ get_or s.sizes i 0
  pub pair_in : (i j : ℕ) → tabled s.tables i j ≡ true → (i < j) × (j < length s.sizes)
  pub row_in : (i j a b : ℕ) → has (row_for s.tables i j a) b ≡ true → (a < get_or s.sizes i 0) × (b < get_or s.sizes j 0)

pub network_of-sound : (s : Sheet) → Fits s → Sound (network_of s)
unfolding network_of
network_of-sound s F =
    record {
      some_variable = F.some_variable;
      sizes = F.some_value;
      size_past = λ i h. get_or-eq_default s.sizes 0 h;
      domain_in = λ i a h. ltb-true _ _ h;
      leader_past = λ i h. refl;
      stated_in = λ i j h. or_elim _ _ h
          (λ t. let p = F.pair_in i j t in (omega arith, omega arith))
          (λ t. let p = F.pair_in j i t in (omega arith, omega arith));
      no_self = λ i. let d : tabled s.tables i i ≡ false = not-true→false _ (λ t. let x : ⊥ = omega (arith, F.pair_in i i t) in x) in
          or-false-i _ _ d d;
      stated_sym = λ i j. or_comm _ _;
      allows_stated = λ i j a b h. or_elim _ _ h
          (λ t. or_l _ _ (row-tabled s.tables i j a b t))
          (λ t. or_r _ _ (row-tabled s.tables j i b a t));
      allows_in = λ i j a b h. or_elim _ _ h
          (λ t. F.row_in i j a b t)
          (λ t. let p = F.row_in j i b a t in (p.1, p.0));
      allows_sym = λ i j a b. or_comm _ _;
      leader_free = λ i l e. absurd (let x : ⊥ = omega arith in x);
      follower_stated = λ i l e. absurd (let x : ⊥ = omega arith in x);
      follower_only = λ i l k e. absurd (let x : ⊥ = omega arith in x);
      follower_one = λ i l a e. absurd (let x : ⊥ = omega arith in x);
      follower_trimmed = λ i l b e. absurd (let x : ⊥ = omega arith in x);
    }

-- "A sheet just read has full lists, no leader,
pub network_of-fresh : (s : Sheet) → fresh (network_of s) ≡ true
unfolding network_of
network_of-fresh s = fresh-i (network_of s) (λ i. refl) (λ i a. refl)

-- and exactly the tables of the file are stated."
pub network_of-stated : (s : Sheet) (i j : ℕ) → (network_of s).stated i j ≡ or (tabled s.tables i j) (tabled s.tables j i)
unfolding network_of
network_of-stated s i j = refl

-- A test that holds only in order is read off the two sides.
one_side : (i j : ℕ) (p q : Bool) → (p ≡ true → i < j) → (q ≡ true → j < i) → and (ltb i j) (or p q) ≡ p
one_side i j p q f g =
    bool-ext _ _
    (λ h. or_elim _ _ (and_r _ _ h) (λ t. t) (λ t. absurd (let x : ⊥ = omega (arith, g t, ltb-true i j (and_l _ _ h)) in x)))
    (λ h. and_i _ _ (lt-ltb _ _ (f h)) (or_l _ _ h))

-- The tables of a sheet are the stated pairs of its network, in order, and their rows have what these allow.
module _ (s : Sheet) (F : Fits s) where
  pub tabled-network_of : (i j : ℕ) → and (ltb i j) ((network_of s).stated i j) ≡ tabled s.tables i j
  unfolding network_of
  tabled-network_of i j = one_side i j _ _ (λ t. (F.pair_in i j t).0) (λ t. (F.pair_in j i t).0)

  pub row-network_of : (i j a b : ℕ) → and (ltb i j) ((network_of s).allows i j a b) ≡ has (row_for s.tables i j a) b
  unfolding network_of
  row-network_of i j a b =
      one_side i j _ _
      (λ t. (F.pair_in i j (row-tabled s.tables i j a b t)).0)
      (λ t. (F.pair_in j i (row-tabled s.tables j i b a t)).0)
