-- The tied variables of a network on arrays, and the product of their domains, capped: it decides 23.
use mathlib.Core.Bool.{Bool, true, false, not as flip}
use mathlib.Core.List.{List}
use mathlib.Core.Path.{◌≡◌, refl, sym, ap, ap₂, ◌∙◌}
use Prim.Native.Nat.{ℕ, ◌^◌, min, ◌≤◌, ◌<◌}
use native.Mathlib.Nat.{min-le_left, min-eq_left, min-eq_right}
use native.Mathlib.Omega.{arith}
use lib.Dec.{eqb, leb, ltb}
use lib.ListN.{get_or}
use borrow.Author.Tests.{eqb-true, eqb-false, leb-true, leb-false, lt-ltb, ltb-true, ltb-false}
use Rattle.bounded.specs.Bool.{and, bit, if}
use Rattle.bounded.specs.Fold.{some, product, count}
use Rattle.bounded.proofs.Bool.{by_cases, bool-ext, not-true→false, and_i, and_l, and_r, and-holds, and-fails, if-true, if-false, bit-true, bit-false, and-cong}
use Rattle.bounded.proofs.Fold.{some-i, some-e, some-none, product-cong, count-widen}
use Rattle.words.specs.Word.{width, has, word}
use Rattle.words.proofs.Laws.{word_lt, has_word, has-word-past, has-ruled, has-zero, nonempty}
use Rattle.network.specs.Network.{Network, free}
use Rattle.network.specs.Survey.{tied, tied_values, tied_product, survey_refusal}
use Rattle.network.proofs.Survey.{survey-refused, survey-accepted}
use Rattle.head.specs.declared.Head.{Head}
use Rattle.head.specs.Held.{HeadShaped, held, sound_in}
use Rattle.head.proofs.Held.{held-sound, held-n, held-size}
use Rattle.solutions.specs.Choices.{free_word}
use Rattle.survey_product.specs.Tied.{tied_of, tied_word, searched_of}

-- ---- one variable

pub tied-none : (free stated i : ℕ) → has free i ≡ false → false ≡ tied_of free stated i
unfolding tied_of
tied-none free stated i h = sym (and-fails _ _ h)

-- The word of its free neighbours is not empty.
pub tied-some : (free stated i x : ℕ) → has free i ≡ true → x ≡ word width (λ (u : ℕ). and (has free u) (has stated u))
    → flip (eqb x 0) ≡ tied_of free stated i
unfolding tied_of
tied-some free stated i x h e =
    by_cases (eqb x 0)
    (λ t. rw t (sym (and-holds _ _ h ∙ some-none width _ (λ j l. sym (has-ruled width _ e j l) ∙ rw (eqb-true x 0 t, has-zero j)))))
    (λ t. rw t (sym (and-holds _ _ h
    ∙ some-e width (has x) (nonempty width x (rw e (word_lt width _)) (eqb-false x 0 t)) (λ j l s. some-i width _ j l (sym (has-ruled width _ e j l) ∙ s)))))

-- How many of its values are searched.
module _ (free tied domain i : ℕ) where
  pub searched-led : has free i ≡ false → 1 ≡ searched_of free tied domain i
  unfolding searched_of
  searched-led h = sym (if-false _ _ _ h)

  pub searched-tied : has free i ≡ true → has tied i ≡ true → count width (has domain) ≡ searched_of free tied domain i
  unfolding searched_of
  searched-tied h t = sym (if-true _ _ _ h ∙ if-true _ _ _ t)

  pub searched-empty : has free i ≡ true → has tied i ≡ false → domain ≡ 0 → 0 ≡ searched_of free tied domain i
  unfolding searched_of
  searched-empty h t e = sym (if-true _ _ _ h ∙ if-false _ _ _ t ∙ bit-false _ (some-none width (has domain) (λ v _. rw (e, has-zero v))))

  pub searched-open : has free i ≡ true → has tied i ≡ false → domain < 2 ^ width → (domain ≡ 0 → ⊥) → 1 ≡ searched_of free tied domain i
  unfolding searched_of
  searched-open h t l d = sym (if-true _ _ _ h ∙ if-false _ _ _ t ∙ bit-true _ (nonempty width domain l d))

-- ---- the word

-- `word` holds the members of a set that are below n.
abbrev pub Below : ℕ → (ℕ → Bool) → ℕ → Type 0
Below n p x = (i : ℕ) → has x i ≡ and (ltb i n) (p i)

pub below_word : (n : ℕ) (p : ℕ → Bool) → Below n p (word n p)
below_word n p i =
    by_cases (ltb i n)
    (λ b. has_word n p i (ltb-true i n b) ∙ sym (and-holds _ _ b))
    (λ b. has-word-past n p i (ltb-false i n b) ∙ sym (and-fails _ _ b))

pub free-below : (N : Network) (leaders : List ℕ) (x : ℕ) → ((i : ℕ) → N.leader i ≡ get_or leaders i 0) → x ≡ free_word N.n leaders → Below N.n (free N) x
unfolding free_word free
free-below N leaders x h e i =
    ap (λ (w : ℕ). has w i) e
    ∙ below_word N.n _ i
    ∙ ap (λ (l : ℕ). and (ltb i N.n) (eqb l 0)) (sym (h i))

-- Of every network that the words are of.
pub tied_below : (N : Network) (fr : ℕ) (stated : List ℕ) (x : ℕ) → N.n ≤ width → Below N.n (free N) fr
    → ((i j : ℕ) → N.stated i j ≡ has (get_or stated i 0) j) → x ≡ tied_word N.n fr stated → Below N.n (tied N) x
unfolding tied_word tied_of tied
tied_below N fr stated x most F S e i =
    ap (λ (w : ℕ). has w i) e
    ∙ below_word N.n _ i
    ∙ and-cong-below i
  where
    same : (i : ℕ) → i < N.n → tied_of fr (get_or stated i 0) i ≡ tied N i
    same i l =
        bool-ext _ _
        (λ t. some-e width _ (and_r _ _ t) (λ j m q.
        let fj = sym (F j) ∙ and_l _ _ q in
        and_i _ _ (and_r _ _ (sym (F i) ∙ and_l _ _ t))
        (some-i N.n _ j (ltb-true j N.n (and_l _ _ fj)) (and_i _ _ (and_r _ _ fj) (S i j ∙ and_r _ _ q)))))
        (λ t. some-e N.n _ (and_r _ _ t) (λ j m q.
        and_i _ _ (below i l (and_l _ _ t))
        (some-i width _ j (omega arith) (and_i _ _ (below j m (and_l _ _ q)) (sym (S i j) ∙ and_r _ _ q)))))
      where
        below : (i : ℕ) → i < N.n → free N i ≡ true → has fr i ≡ true
        below i l t = F i ∙ and_i _ _ (lt-ltb i N.n l) t

    and-cong-below : (i : ℕ) → and (ltb i N.n) (tied_of fr (get_or stated i 0) i) ≡ and (ltb i N.n) (tied N i)
    and-cong-below i = and-cong _ _ _ (λ b. same i (ltb-true i N.n b))

-- ---- the product

module _ (h : Head) (rows : List ℕ) (S : HeadShaped h) (t : sound_in h rows ≡ true) where
  -- Values lie below the sizes, so that a domain counts the same below either bound.
  pub held-count : (i : ℕ) → count width (has (get_or h.domains i 0)) ≡ count (get_or h.sizes i 0) (has (get_or h.domains i 0))
  unfolding held
  held-count i =
      let most = held-size h rows S t i in
      count-widen (get_or h.sizes i 0) width _ (omega arith)
      (λ a l. not-true→false _ (λ m. let x : ⊥ = omega (arith, (held-sound h rows S t).domain_in i a m) in x))

  pub held-some : (i : ℕ) → some width (has (get_or h.domains i 0)) ≡ some (get_or h.sizes i 0) (has (get_or h.domains i 0))
  unfolding held
  held-some i =
      let most = held-size h rows S t i in
      bool-ext _ _
      (λ q. some-e width _ q (λ a l m. some-i (get_or h.sizes i 0) _ a ((held-sound h rows S t).domain_in i a m) m))
      (λ q. some-e (get_or h.sizes i 0) _ q (λ a l m. some-i width _ a (omega arith) m))

  module _ {fr ti : ℕ} (F : fr ≡ free_word h.n h.leaders) (T : ti ≡ tied_word h.n fr h.stated) where
    pub held-free : Below h.n (free (held h rows)) fr
    unfolding held
    held-free = free-below (held h rows) h.leaders fr (λ i. refl) F

    pub held-tied : Below h.n (tied (held h rows)) ti
    unfolding held
    held-tied = tied_below (held h rows) fr h.stated ti (omega (arith, held-n h rows t)) held-free (λ i j. refl) T

    factor : (i : ℕ) → i < h.n → searched_of fr ti (get_or h.domains i 0) i ≡ tied_values (held h rows) i
    unfolding searched_of tied_values held
    factor i l =
        let inside = lt-ltb i h.n l in
        let f = held-free i ∙ and-holds _ _ inside in
        let e = held-tied i ∙ and-holds _ _ inside in
        ap₂ (λ (a b : Bool). if a (if b (count width (has (get_or h.domains i 0))) (bit (some width (has (get_or h.domains i 0))))) 1) f e
        ∙ ap₂ (λ (x : ℕ) (y : Bool). if (free (held h rows) i) (if (tied (held h rows) i) x (bit y)) 1) (held-count i) (held-some i)

    pub product-held : product h.n (λ (i : ℕ). searched_of fr ti (get_or h.domains i 0) i) ≡ tied_product (held h rows)
    unfolding tied_product held
    product-held = product-cong h.n _ _ factor

-- ---- what it decides

module _ (N : Network) (r : ℕ) (e : r ≡ min (tied_product N) 1000001) where
  pub product-refused : 1000000 < r → survey_refusal N ≡ 23
  product-refused l = (survey-refused N).1 (omega (arith, min-le_left (tied_product N) 1000001))

  -- Below the cap it is the product itself.
  pub below-cap : r ≤ 1000000 → tied_product N ≡ r
  below-cap l =
      by_cases (leb (tied_product N) 1000001)
      (λ t. sym (e ∙ min-eq_left (leb-true _ _ t)))
      (λ t. let m : 1000001 ≤ tied_product N = omega (arith, leb-false (tied_product N) 1000001 t) in
      absurd (let x : ⊥ = omega (arith, e ∙ min-eq_right m) in x))

  pub product-accepted : r ≤ 1000000 → survey_refusal N ≡ 0
  product-accepted l = survey-accepted N (omega (arith, below-cap l))
