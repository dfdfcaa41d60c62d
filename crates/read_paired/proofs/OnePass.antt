-- Rows in one pass: no row has two values, and none has one of a row before it (`rows_pass`), which their counts tell at the end.
use mathlib.Core.Bool.{Bool, true, false, ◌&&◌}
use mathlib.Core.Bool as machine
use mathlib.Core.Path.{◌≡◌, refl, sym, ap, ap₂, ◌∙◌}
use Prim.Native.Nat.{ℕ, suc, ◌+◌, ◌-◌, ◌%◌, ◌^◌, ◌≤◌, ◌<◌}
use native.Mathlib.Numerals.{add-one}
use native.Mathlib.Omega.{arith}
use lib.Bits.{bit_and, and_le_l}
use lib.Dec.{eqb, leb, ltb}
use lib.Pow.{pow_pos}
use borrow.Author.Tests.{ltb-true, ltb-false, eqb-true, eqb-false, eq-eqb, le-leb, lt-leb, leb-true, leb-false}
use Rattle.bounded.specs.Bool.{and, or, not, bit}
use Rattle.bounded.specs.Fold.{every, some, count, first}
use Rattle.bounded.proofs.Bool.{by_cases, bool-ext, not-true→false, and_i, and_l, and_r, or_comm, or-false-l, or-false-r, or-false-i, not-i, not-e, bit-true, bit-false, bit_le, machine-and}
use Rattle.bounded.proofs.Fold.{every-i, every-e, every-cong, some-e, some-none, sum-cong, sum-add, count-cong, count-widen, count_none, count-pos, count-le}
use Rattle.words.specs.Word.{has, word}
use Rattle.words.proofs.Laws.{dropped-is, has-below, has-ruled, has-zero, word_lt, word-cong, word_none, empty, nonempty, crowded-dropped}
use Rattle.format.specs.Profile.{rows_paired}
use Rattle.format.proofs.Profile.{rows_pass}

-- A row against those that were seen.
abbrev pub alone_in : ℕ → ℕ → ℕ → Bool
alone_in w row seen = and (leb (count w (has row)) 1) (every w (λ (b : ℕ). not (and (has row b) (has seen b))))

-- ---- words

bit-both : (a b : Bool) → bit (or a b) + bit (and b a) ≡ bit a + bit b
unfolding bit or and
bit-both true true = refl
bit-both true false = refl
bit-both false true = refl
bit-both false false = refl

-- What two tests pass together, and what both do.
count-both : (w : ℕ) (p q : ℕ → Bool) → count w (λ (b : ℕ). or (p b) (q b)) + count w (λ (b : ℕ). and (q b) (p b)) ≡ count w p + count w q
unfolding count
count-both w p q = sym (sum-add w _ _) ∙ (sum-cong w _ _ (λ b l. bit-both (p b) (q b)) ∙ sum-add w _ _)

-- Nothing passes where the count is 0, and the other way round.
count-every : (w : ℕ) (p : ℕ → Bool) → count w p ≡ 0 → every w (λ (b : ℕ). not (p b)) ≡ true
count-every w p e = every-i w _ λ b l. not-i _ (not-true→false _ λ t. let x : ⊥ = omega (arith, count-pos w p b l t) in x)

every-count : (w : ℕ) (p : ℕ → Bool) → every w (λ (b : ℕ). not (p b)) ≡ true → count w p ≡ 0
every-count w p h = count_none w p (some-none w p λ b l. not-e _ (every-e w _ h b l))

count-empty : (w : ℕ) {x : ℕ} → x ≡ 0 → count w (has x) ≡ 0
count-empty w e = count_none w _ (some-none w _ λ v l. ap (λ (x : ℕ). has x v) e ∙ has-zero v)

-- A word that has no two values has one, unless it is 0.
count-one-or : (w x : ℕ) → x < 2 ^ w → count w (has x) ≤ 1 → count w (has x) + bit (eqb x 0) ≡ 1
count-one-or w x h l =
    by_cases (eqb x 0)
    (λ t. omega (arith, count-empty w (eqb-true x 0 t), bit-true _ t))
    (λ t. some-e w _ (nonempty w x h (eqb-false x 0 t)) λ v lv m. omega (arith, count-pos w (has x) v lv m, bit-false _ t))

-- The test for two values: nothing is left past the lowest.
dropped-past : (w x : ℕ) {d : ℕ} → x < 2 ^ w → (x ≡ 0 → ⊥) → d ≡ word w (λ (u : ℕ). and (has x u) (not (eqb u (first w (has x)))))
    → eqb d 0 ≡ leb (count w (has x)) 1
dropped-past w x {d} h n de =
    let e = crowded-dropped w x h n de in
    by_cases (eqb d 0)
    (λ t. t ∙ sym (le-leb (count w (has x)) 1 (omega (arith, leb-false 2 (count w (has x)) (sym e ∙ ap machine.not t)))))
    (λ t. t ∙ sym (lt-leb (count w (has x)) 1 (omega (arith, leb-true 2 (count w (has x)) (sym e ∙ ap machine.not t)))))

pub none-past : {x : ℕ} → x < 2 ^ 32 → eqb (bit_and x ((x + 4294967295) % 4294967296)) 0 ≡ leb (count 32 (has x)) 1
none-past {x} h =
    by_cases (eqb x 0)
    (λ t. let z : x ≡ 0 = eqb-true x 0 t in
    eq-eqb _ 0 (omega (arith, and_le_l x ((x + 4294967295) % 4294967296), z)) ∙ sym (le-leb (count 32 (has x)) 1 (omega (arith, count-empty 32 z))))
    (λ t. let n = eqb-false x 0 t in
    let e : (x + 4294967295) % 4294967296 ≡ x - 1 = omega arith in
    rw e (dropped-past 32 x h n (dropped-is 32 x h (omega arith))))

-- ---- the pass

-- What a row adds.
pub record Added (w seen more blanks r seen' past more' blanks' : ℕ) : Type 0 where
  pub row_in : r < 2 ^ w
  pub more_in : more < 2 ^ w
  pub past_in : past < 2 ^ w
  pub seen_is : seen' ≡ word w (λ (b : ℕ). or (has seen b) (has r b))
  pub past_is : eqb past 0 ≡ leb (count w (has r)) 1
  pub more_is : more' ≡ word w (λ (b : ℕ). or (has more b) (has past b))
  pub blanks_is : blanks' ≡ blanks + bit (eqb r 0)

module _ {w seen more blanks r seen' past more' blanks' : ℕ} (A : Added w seen more blanks r seen' past more' blanks') where
  more-none : eqb more' 0 ≡ true → (eqb more 0 ≡ true) × (eqb past 0 ≡ true)
  more-none t =
      let none : (b : ℕ) → b < w → or (has more b) (has past b) ≡ false = λ b l.
      sym (has-ruled w _ A.more_is b l) ∙ (ap (λ (x : ℕ). has x b) (eqb-true more' 0 t) ∙ has-zero b) in (
        eq-eqb more 0 (empty w more A.more_in λ b l. or-false-l _ _ (none b l)),
        eq-eqb past 0 (empty w past A.past_in λ b l. or-false-r _ _ (none b l)),
      )

  none_more : eqb more 0 ≡ true → eqb past 0 ≡ true → eqb more' 0 ≡ true
  none_more t u =
      eq-eqb more' 0 (A.more_is ∙ word_none w _ λ b l. or-false-i _ _
      (ap (λ (x : ℕ). has x b) (eqb-true more 0 t) ∙ has-zero b)
      (ap (λ (x : ℕ). has x b) (eqb-true past 0 u) ∙ has-zero b))

  few : eqb past 0 ≡ true → count w (has r) ≤ 1
  few t = leb-true (count w (has r)) 1 (sym A.past_is ∙ t)

  one-or : eqb past 0 ≡ true → count w (has r) + bit (eqb r 0) ≡ 1
  one-or t = count-one-or w r A.row_in (few t)

  abbrev shared : ℕ
  shared = count w (λ (b : ℕ). and (has r b) (has seen b))

  together : count w (has seen') + shared ≡ count w (has seen) + count w (has r)
  together = ap (λ (x : ℕ). x + shared) (count-cong w _ _ (has-ruled w _ A.seen_is)) ∙ count-both w (has seen) (has r)

  step-few : (n : ℕ) → (eqb more 0 ≡ true → count w (has seen) + blanks ≤ n) → eqb more' 0 ≡ true → count w (has seen') + blanks' ≤ n + 1
  step-few n h t = let m = more-none t in omega (arith, h m.0, one-or m.1, together, A.blanks_is)

  -- One more row: it passes alone, and all before it do.
  step-told : (n : ℕ) → (eqb more 0 ≡ true → count w (has seen) + blanks ≤ n)
      → and (eqb more' 0) (eqb (count w (has seen') + blanks') (n + 1)) ≡ and (alone_in w r seen) (and (eqb more 0) (eqb (count w (has seen) + blanks) n))
  step-told n h =
      bool-ext _ _
      (λ t.
      let m = more-none (and_l _ _ t) in
      let full : count w (has seen') + blanks' ≡ n + 1 = eqb-true _ _ (and_r _ _ t) in
      let none : shared ≡ 0 = omega (arith, h m.0, one-or m.1, together, A.blanks_is) in
      and_i _ _ (and_i _ _ (sym A.past_is ∙ m.1) (count-every w _ none))
      (and_i _ _ m.0 (eq-eqb _ n (omega (arith, one-or m.1, together, A.blanks_is)))))
      (λ t.
      let u : eqb past 0 ≡ true = A.past_is ∙ and_l _ _ (and_l _ _ t) in
      let none : shared ≡ 0 = every-count w _ (and_r _ _ (and_l _ _ t)) in
      let full : count w (has seen) + blanks ≡ n = eqb-true _ _ (and_r _ _ (and_r _ _ t)) in
      and_i _ _ (none_more (and_l _ _ (and_r _ _ t)) u) (eq-eqb _ (n + 1) (omega (arith, one-or u, together, A.blanks_is))))

-- The first n rows have been passed.
pub record Passed (w : ℕ) (row : ℕ → ℕ) (n seen more blanks : ℕ) : Type 0 where
  pub seen_is : seen ≡ word w (λ (b : ℕ). some n (λ (c : ℕ). has (row c) b))
  pub more_in : more < 2 ^ w
  pub few : eqb more 0 ≡ true → count w (has seen) + blanks ≤ n
  pub blanks_few : blanks ≤ n
  pub told : and (eqb more 0) (eqb (count w (has seen) + blanks) n) ≡ rows_paired n w row

module _ (w : ℕ) {row : ℕ → ℕ} where
  pub passed_none : Passed w row 0 0 0 0
  unfolding some every
  passed_none =
      let z0 : count w (has 0) ≡ 0 = count-empty w refl in
      let z : count w (has 0) + 0 ≡ 0 = omega (arith, z0) in
      record {
        seen_is = sym (word_none w _ λ b l. refl);
        more_in = pow_pos w;
        few = λ t. omega (arith, z);
        blanks_few = omega arith;
        told = and_i _ _ (eq-eqb 0 0 refl) (eq-eqb _ 0 z) ∙ sym (rows_pass 0 w row);
      }

  module _ {n seen more blanks : ℕ} (P : Passed w row n seen more blanks) {r : ℕ} (re : r ≡ row n) where
    row_told : alone_in w r seen ≡ and (leb (count w (has (row n))) 1) (every w (λ (b : ℕ). not (and (has (row n) b) (some n (λ (c : ℕ). has (row c) b)))))
    row_told =
        ap₂ and (ap (λ (x : ℕ). leb (count w (has x)) 1) re)
        (every-cong w _ _ λ b l. ap not (ap₂ and (ap (λ (x : ℕ). has x b) re) (has-ruled w _ P.seen_is b l)))

    pub passed-more : {seen' past more' blanks' : ℕ} → Added w seen more blanks r seen' past more' blanks' → Passed w row (n + 1) seen' more' blanks'
    unfolding some every
    passed-more A =
        record {
          seen_is =
              rw (add-one n)
              (A.seen_is ∙ word-cong w _ _ λ b l. ap₂ or (has-ruled w _ P.seen_is b l) (ap (λ (x : ℕ). has x b) re) ∙ or_comm _ _);
          more_in = rw A.more_is (word_lt w _);
          few = step-few A n P.few;
          blanks_few = omega (arith, P.blanks_few, bit_le (eqb r 0), A.blanks_is);
          told =
              step-told A n P.few
              ∙ (ap₂ and row_told (P.told ∙ rows_pass n w row) ∙ rw (add-one n) (sym (rows_pass (suc n) w row)));
        }

  -- At the end the counts decide.
  pub passed-all : {m n seen more blanks values : ℕ} → n ≡ m → Passed w row n seen more blanks → values ≡ count w (has seen)
      → eqb more 0 && eqb (values + blanks) m ≡ rows_paired m w row
  passed-all e P ve = rw (← e, ve) (machine-and _ _ ∙ P.told)

-- They are small.
pub bit-least : (b : Bool) {x : ℕ} → x ≡ bit b → x ≤ 1
bit-least b e = omega (arith, bit_le b)

pub count-least : (w r : ℕ) {x : ℕ} → x ≡ count w (has r) → x ≤ w
count-least w r e = omega (arith, count-le w (has r))

-- Values that no row has change nothing.
pub rows-widen : (m k w : ℕ) (row : ℕ → ℕ) → k ≤ w → ((a : ℕ) → a < m → row a < 2 ^ k) → rows_paired m k row ≡ rows_paired m w row
unfolding rows_paired
rows-widen m k w row l below =
    ap₂ and
    (every-cong m _ _ λ a la. ap (λ (c : ℕ). leb c 1)
    (sym (count-widen k w (has (row a)) l λ b h. not-true→false _ λ t. let x : ⊥ = omega (arith, has-below k (row a) b t (below a la)) in x)))
    (bool-ext _ _
    (λ h. every-i w _ λ b lb. by_cases (ltb b k)
    (λ t. every-e k _ h b (ltb-true b k t))
    (λ t. le-leb (count m (λ (a : ℕ). has (row a) b)) 1 (omega (
      arith,
      count_none m (λ (a : ℕ). has (row a) b) (some-none m _ λ a la.
          not-true→false _ λ u. let x : ⊥ = omega (arith, has-below k (row a) b u (below a la), ltb-false b k t) in x),
    ))))
    (λ h. every-i k _ λ b lb. every-e w _ h b (omega arith)))
