-- Tables over pairs in which, for each k of a set T, what stood at j, k has gone to i, k, and from k, j to k, i.
-- The pairs of a step are of this kind, T being the third variables, and so are those of one substitution, T being one variable.
use mathlib.Core.Bool.{Bool, true, false}
use mathlib.Core.Path.{◌≡◌, refl, sym, ◌∙◌, ap, subst, fun_ext}
use Prim.Native.Nat.{ℕ, ◌<◌}
use lib.Dec.{eqb}
use borrow.Author.Tests.{eq-eqb, eqb-true}
use Rattle.bounded.specs.Bool.{and, or, if}
use Rattle.bounded.specs.Fold.{every}
use Rattle.network.specs.Pairs.{Stays}
use Rattle.bounded.proofs.Bool.{by_cases, clash, bool-ext, and_i, and_l, and_r, and-false, false-and, or_l, or_r, or-false-i, if-true, if-false}
use Rattle.bounded.proofs.Fold.{pairs-i, pairs-e}

-- x is p, and a test holds: the form in which a pair is recognised.
is-and : (p : ℕ) (b : Bool) → b ≡ true → and (eqb p p) b ≡ true
is-and p b t = and_i (eqb p p) b (eq-eqb p p refl) t

not-and : (x p : ℕ) (b : Bool) → (x ≡ p → b ≡ false) → and (eqb x p) b ≡ false
not-and x p b h = by_cases (eqb x p)
    (λ e. rw (h (eqb-true x p e)) (and-false (eqb x p)))
    (λ e. rw e (false-and b))

not-and-e : (x p : ℕ) (b : Bool) → and (eqb x p) b ≡ false → x ≡ p → b ≡ false
not-and-e x p b h e = by_cases b (λ t. clash (and_i (eqb x p) b (eq-eqb x p e) t) h) (λ t. t)

module _ (i j : ℕ) (T : ℕ → Bool) where
  pub stays-sym : (x y : ℕ) → Stays i j T x y → Stays i j T y x
  stays-sym x y r = record { left_i = r.right_i; right_i = r.left_i; left_j = r.right_j; right_j = r.left_j }

  -- The pair i, j itself stays, and so does each pair of a number with itself.
  module _ (i-out : T i ≡ false) (j-out : T j ≡ false) where
    pub own-pair-stays : (i ≡ j → ⊥) → Stays i j T i j
    own-pair-stays d = record { left_i = λ e. j-out; right_i = λ e. absurd (d (sym e)); left_j = λ e. absurd (d e); right_j = λ e. i-out }

    pub self-pair-stays : (x : ℕ) → Stays i j T x x
    self-pair-stays x = record { left_i = at_i; right_i = at_i; left_j = at_j; right_j = at_j }
      where
        at_i : x ≡ i → T x ≡ false
        at_i e = ap T e ∙ i-out

        at_j : x ≡ j → T x ≡ false
        at_j e = ap T e ∙ j-out

  -- A pair is i, k or k, i or j, k or k, j with k in T, or it stays.
  pub pair-case : (P : ℕ → ℕ → Type 0)
      → ((k : ℕ) → T k ≡ true → P i k) → ((k : ℕ) → T k ≡ true → P k i)
      → ((k : ℕ) → T k ≡ true → P j k) → ((k : ℕ) → T k ≡ true → P k j)
      → ((x y : ℕ) → Stays i j T x y → P x y)
      → (x y : ℕ) → P x y
  pair-case P ik ki jk kj rest x y =
      is-pair i x y (λ (z : ℕ). P z y) (ik y) (λ a.
      is-pair i y x (P x) (ki x) (λ b.
      is-pair j x y (λ (z : ℕ). P z y) (jk y) (λ c.
      is-pair j y x (P x) (kj x) (λ d.
      rest x y (record { left_i = a; right_i = b; left_j = c; right_j = d })))))
    where
      is-pair : (p z k : ℕ) (Q : ℕ → Type 0) → (T k ≡ true → Q p) → ((z ≡ p → T k ≡ false) → Q z) → Q z
      is-pair p z k Q f g = by_cases (and (eqb z p) (T k))
          (λ t. subst Q (sym (eqb-true z p (and_l _ _ t))) (f (and_r _ _ t)))
          (λ t. g (not-and-e z p (T k) t))

  -- The cases of a pair, for what is alike on both sides.
  pub pair-case-sym : (P : ℕ → ℕ → Type 0) → ((x y : ℕ) → P x y → P y x)
      → ((k : ℕ) → T k ≡ true → P i k) → ((k : ℕ) → T k ≡ true → P j k) → ((x y : ℕ) → Stays i j T x y → P x y)
      → (x y : ℕ) → P x y
  pair-case-sym P s ik jk rest = pair-case P ik (λ k t. s i k (ik k t)) jk (λ k t. s j k (jk k t)) rest

-- The table `now`, where `old` stood before: case by case.
pub record Moved {A : Type 0} (i j : ℕ) (T : ℕ → Bool) (new-ik new-ki : ℕ → ℕ → A) (gone : A) (old now : ℕ → ℕ → A)
    : Type 0 where
  pub at_ik : (k : ℕ) → T k ≡ true → now i k ≡ new-ik i k
  pub at_ki : (k : ℕ) → T k ≡ true → now k i ≡ new-ki k i
  pub at_jk : (k : ℕ) → T k ≡ true → now j k ≡ gone
  pub at_kj : (k : ℕ) → T k ≡ true → now k j ≡ gone
  pub elsewhere : (x y : ℕ) → Stays i j T x y → now x y ≡ old x y

module _ {A : Type 0} (i j : ℕ) (T : ℕ → Bool) (new-ik new-ki : ℕ → ℕ → A) (gone : A) (old : ℕ → ℕ → A) where
  -- How such a table is written.
  abbrev table : ℕ → ℕ → A
  table x y =
      if (and (eqb x i) (T y)) (new-ik x y)
      (if (and (eqb y i) (T x)) (new-ki x y)
      (if (or (and (eqb x j) (T y)) (and (eqb y j) (T x))) gone (old x y)))

  table-moved : (i ≡ j → ⊥) → T i ≡ false → T j ≡ false → Moved i j T new-ik new-ki gone old table
  table-moved d ti tj =
      record {
        at_ik = λ k t. if-true _ _ _ (is-and i (T k) t);
        at_ki = λ k t. if-false _ _ _ (not-and k i (T i) (λ e. ti)) ∙ if-true _ _ _ (is-and i (T k) t);
        at_jk = λ k t. if-false _ _ _ (j-not-i (T k)) ∙ (if-false _ _ _ (k_not_i k) ∙ if-true _ _ _ (or_l _ _ (is-and j (T k) t)));
        at_kj = λ k t. if-false _ _ _ (k_not_i k) ∙ (if-false _ _ _ (j-not-i (T k)) ∙ if-true _ _ _ (or_r _ _ (is-and j (T k) t)));
        elsewhere =
            λ x y r. if-false _ _ _ (not-and x i (T y) r.left_i) ∙ (if-false _ _ _ (not-and y i (T x) r.right_i)
            ∙ if-false _ _ _ (or-false-i _ _ (not-and x j (T y) r.left_j) (not-and y j (T x) r.right_j)));
      }
    where
      j-not-i : (b : Bool) → and (eqb j i) b ≡ false
      j-not-i b = not-and j i b (λ e. absurd (d (sym e)))

      k_not_i : (k : ℕ) → and (eqb k i) (T j) ≡ false
      k_not_i k = not-and k i (T j) (λ e. tj)

  -- Whatever is written so is such a table.
  pub moved : (i ≡ j → ⊥) → T i ≡ false → T j ≡ false → {now : ℕ → ℕ → A} → ((x y : ℕ) → now x y ≡ table x y)
      → Moved i j T new-ik new-ki gone old now
  moved d ti tj e =
      subst (λ (t : ℕ → ℕ → A). Moved i j T new-ik new-ki gone old t) (sym (fun_ext (λ x. fun_ext (e x)))) (table-moved d ti tj)

-- Where a pair that goes is tested with the pair that it goes to, all pairs pass after exactly when all pass before.
pub pairs-moved : (n i j : ℕ) (T : ℕ → Bool) (old now : ℕ → ℕ → Bool) → i < n → j < n
    → Moved i j T (λ (x k : ℕ). and (old x k) (old j k)) (λ (k x : ℕ). and (old k x) (old k j)) true old now
    → every n (λ (x : ℕ). every n (now x)) ≡ every n (λ (x : ℕ). every n (old x))
pairs-moved n i j T old now li lj m =
    bool-ext _ _
    (λ h. let all : (x y : ℕ) → x < n → y < n → now x y ≡ true = pairs-e n now h in
    pairs-i n old (pair-case i j T (λ (x y : ℕ). x < n → y < n → old x y ≡ true)
    (λ k t _ l. and_l _ _ (sym (m.at_ik k t) ∙ all i k li l))
    (λ k t l _. and_l _ _ (sym (m.at_ki k t) ∙ all k i l li))
    (λ k t _ l. and_r _ _ (sym (m.at_ik k t) ∙ all i k li l))
    (λ k t l _. and_r _ _ (sym (m.at_ki k t) ∙ all k i l li))
    (λ x y r lx ly. sym (m.elsewhere x y r) ∙ all x y lx ly)))
    (λ h. let all : (x y : ℕ) → x < n → y < n → old x y ≡ true = pairs-e n old h in
    pairs-i n now (pair-case i j T (λ (x y : ℕ). x < n → y < n → now x y ≡ true)
    (λ k t _ l. m.at_ik k t ∙ and_i _ _ (all i k li l) (all j k lj l))
    (λ k t l _. m.at_ki k t ∙ and_i _ _ (all k i l li) (all k j l lj))
    (λ k t _ l. m.at_jk k t)
    (λ k t l _. m.at_kj k t)
    (λ x y r lx ly. m.elsewhere x y r ∙ all x y lx ly)))
