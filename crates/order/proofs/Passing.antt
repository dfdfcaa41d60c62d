-- The test of a list in one pass: `once-pass` and `good-pass`.
use mathlib.Core.Bool.{Bool, true, false, ◌&&◌}
use mathlib.Core.List.{List}
use mathlib.Core.Path.{◌≡◌, refl, sym, ap, ap₂, ◌∙◌}
use Prim.Native.Nat.{ℕ, suc, pred, ◌+◌, ◌-◌, ◌≤◌, ◌<◌}
use native.Mathlib.Numerals.{add-one, sub-one}
use native.Mathlib.Omega.{arith}
use lib.Dec.{eqb, leb, ltb}
use lib.ListN.{length, get_or}
use borrow.Author.Count.{below_more}
use borrow.Author.Tests.{eq-eqb, eqb-true, ltb-true, lt-ltb, le-leb, leb-true}
use Rattle.bounded.specs.Bool.{and, not, if}
use Rattle.bounded.specs.Fold.{every, some}
use Rattle.bounded.proofs.Bool.{clash, not-true→false, and_i, and_l, and_r, and-holds, not-i, not-e, if-true, if-false}
use Rattle.bounded.proofs.Fold.{every-i, every-e, every-cong, test-joins}
use Rattle.words.specs.Word.{width, has, word}
use Rattle.words.proofs.Laws.{has-below, word_lt}
use Rattle.network.specs.Network.{Network}
use Rattle.network.specs.Sound.{Sound}
use Rattle.network.specs.Reach.{reach}
use Rattle.network.specs.Order.{before, each_comes_once, good, order_of, good_order, order_refusal, test_order}
use Rattle.network.proofs.Order.{once-pass, good-pass, order-taken}
use Rattle.order.specs.Orders.{Governed, may_come, lists_each, tested_in, order_tested}
use Rattle.std.specs.Prelude.{Ok, Err}
use Rattle.cause.specs.declared.Cause.TheVariants.{OrderNumbers}
use Rattle.order.proofs.Left.{left_of, left-has, left-all, left_less, may-permitted}

-- None that is left when the place q comes is over the variable there.
unfoldable pub clear_at : ℕ → List ℕ → List ℕ → ℕ → Bool
clear_at n over l q = eqb (word width (λ (v : ℕ). and (has (left_of n (before (order_of l) q)) v) (has (get_or over (order_of l q) 0) v))) 0

-- The place q holds a number that was left.
pub record Fresh (n : ℕ) (l : List ℕ) (q : ℕ) : Type 0 where
  pub from_one : 1 ≤ get_or l q 0
  pub in_n : order_of l q < n
  pub new : before (order_of l) q (order_of l q) ≡ false

-- So it names a variable.
pub fresh-named : (n : ℕ) (l : List ℕ) {q v : ℕ} → Fresh n l q → v ≡ get_or l q 0 → (1 ≤ v) × (v - 1 < n)
unfolding order_of
fresh-named n l {q} F e = let a = F.from_one in let b : pred (get_or l q 0) < n = F.in_n in (omega arith, omega arith)

-- The first p places have been passed.
pub record Passing (n : ℕ) (over l : List ℕ) (p left : ℕ) (good : Bool) : Type 0 where
  pub left_is : left ≡ left_of n (before (order_of l) p)
  pub fresh : (q : ℕ) → q < p → Fresh n l q
  pub good_is : good ≡ every p (clear_at n over l)

module _ (n : ℕ) (over l : List ℕ) where
  pub passing-none : {left : ℕ} → left ≡ word width (λ (u : ℕ). ltb u n) → Passing n over l 0 left true
  unfolding before some every
  passing-none e = record { left_is = left-all n _ (λ v. refl) e; fresh = λ q h. absurd (let x : ⊥ = omega arith in x); good_is = refl }

  module _ {p left : ℕ} {good : Bool} (P : Passing n over l p left good) {v : ℕ} (ve : v ≡ get_or l p 0) where
    own : pred v ≡ order_of l p
    unfolding order_of
    own = ap pred ve

    -- A number of one that is left is fresh,
    pub left-fresh : and (leb 1 v) (has left (pred v)) ≡ true → Fresh n l p
    left-fresh t =
        let m : has left (order_of l p) ≡ true = ap (has left) (sym own) ∙ and_r _ _ t in
        let k : order_of l p < width = has-below width left (order_of l p) m (rw P.left_is (unfold left_of in word_lt width _)) in
        let h = sym (left-has n _ P.left_is (order_of l p) k) ∙ m in
        record { from_one = omega (arith, leb-true 1 v (and_l _ _ t)); in_n = ltb-true _ _ (and_l _ _ h); new = not-e _ (and_r _ _ h) }

    -- and goes from those that are left;
    pub passing-more : Fresh n l p → {i one both left' : ℕ} → i ≡ v - 1
        → both ≡ word width (λ (u : ℕ). and (has left u) (has (get_or over i 0) u))
        → one ≡ word width (λ (u : ℕ). eqb u i)
        → left' ≡ word width (λ (u : ℕ). and (has left u) (not (has one u)))
        → Passing n over l (p + 1) left' (good && eqb both 0)
    unfolding clear_at before some
    passing-more F {i} {one} {both} ie be oe le =
        let at : i ≡ order_of l p = ie ∙ sub-one v ∙ own in
        record {
          left_is = rw (add-one p) (left_less n _ (before (order_of l) (suc p)) i P.left_is oe le (λ u. rw at refl));
          fresh = below_more _ _ P.fresh F;
          good_is = test-joins (clear_at n over l) p P.good_is (ap (λ (x : ℕ). eqb x 0) (be ∙ ap₂ (λ (x y : ℕ). word width (λ (u : ℕ). and (has x u) (has y u))) P.left_is (ap (λ (k : ℕ). get_or over k 0) at)));
        }

    -- any other number refuses the list.
    pub passing-refused : (R : ℕ → ℕ → Bool) → n ≤ width → p < n → and (leb 1 v) (has left (pred v)) ≡ false → Err OrderNumbers ≡ tested_in n R l
    unfolding tested_in lists_each
    passing-refused R b k f = sym (if-false _ _ _ (not-true→false _ λ t.
        let once = and_r _ _ (and_r _ _ t) in
        let here = every-e n _ (sym (once-pass n (order_of l)) ∙ once) p k in
        let x : order_of l p < n = ltb-true _ _ (and_l _ _ here) in
        clash
        (and_i _ _ (ap (leb 1) ve ∙ every-e n _ (and_l _ _ (and_r _ _ t)) p k)
        (ap (has left) own ∙ left-has n _ P.left_is (order_of l p) (omega arith) ∙ and_i _ _ (and_l _ _ here) (and_r _ _ here)))
        f))

  -- At the end the list holds each once, and the flag says whether it is good.
  module _ {p left : ℕ} {flag : Bool} (P : Passing n over l p left flag) (pe : p ≡ n) where
    all-fresh : (q : ℕ) → q < n → Fresh n l q
    all-fresh q k = P.fresh q (omega arith)

    all_once : each_comes_once n (order_of l) ≡ true
    all_once = once-pass n (order_of l) ∙ every-i n _ λ q k. let F = all-fresh q k in and_i _ _ (lt-ltb _ _ F.in_n) (not-i _ F.new)

    flag-good : (R : ℕ → ℕ → Bool) → n ≤ width → Governed n R over → good n R (order_of l) ≡ flag
    unfolding clear_at may_come
    flag-good R b G =
        good-pass n R G.self G.join (order_of l) all_once
        ∙ every-cong n _ (clear_at n over l) (λ q k.
        let F = all-fresh q k in
        sym (may-permitted n (before (order_of l) q) (order_of l q) b G F.in_n refl)
        ∙ and-holds _ _ (left-has n _ refl (order_of l q) (let x = F.in_n in omega arith) ∙ and_i _ _ (lt-ltb _ _ F.in_n) (not-i _ F.new)))
        ∙ ap (λ (k : ℕ). every k (clear_at n over l)) (sym pe)
        ∙ sym P.good_is

    pub passing-end : (R : ℕ → ℕ → Bool) → n ≤ width → length l ≡ n → Governed n R over → tested_in n R l ≡ Ok flag
    unfolding tested_in lists_each
    passing-end R b le G =
        if-true _ _ _ (and_i _ _ (eq-eqb _ _ le) (and_i _ _ (every-i n _ λ q k. le-leb _ _ (all-fresh q k).from_one) all_once))
        ∙ ap Ok (flag-good R b G)

number-tells : (b : Bool) → b ≡ eqb (if b 0 30) 0
unfolding if
number-tells true = refl
number-tells false = refl

-- Of a network.
module _ (N : Network) (S : Sound N) (l : List ℕ) where
  each-told : lists_each N.n l ≡ eqb (order_refusal N l) 0
  unfolding lists_each order_refusal
  each-told = number-tells _

  pub tested-network : tested_in N.n (reach N) l ≡ order_tested N l
  unfolding tested_in order_tested test_order good_order
  tested-network = ap (λ (t : Bool). if t (Ok (good N.n (reach N) (order_of l))) (Err OrderNumbers)) each-told

  pub length-refused : (length l ≡ N.n → ⊥) → Err OrderNumbers ≡ order_tested N l
  unfolding order_tested
  length-refused d = sym (if-false _ _ _ (not-true→false _ λ t. d ((order-taken N S l).0 (eqb-true _ 0 t)).0))
