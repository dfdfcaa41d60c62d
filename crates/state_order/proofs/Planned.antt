-- The sentences of document 02, L13, of what the two calls answer: those of the network, lifted.
use mathlib.Core.Bool.{Bool, true, false}
use mathlib.Core.List.{List}
use mathlib.Core.Logic.{◌↔◌}
use mathlib.Core.Path.{◌≡◌, refl, sym, ap, subst, ◌∙◌}
use Prim.Native.Nat.{ℕ, suc, pred, ◌≤◌, ◌<◌}
use native.Mathlib.Omega.{arith}
use lib.Dec.{eqb}
use lib.ListN.{length, get_or}
use borrow.Author.Tests.{eqb-true, eqb-false}
use Rattle.bounded.specs.Bool.{if}
use Rattle.bounded.specs.Table.{tabulate}
use Rattle.bounded.proofs.Bool.{by_cases, clash, not-true→false}
use Rattle.bounded.proofs.Table.{length-tabulate, get_d_tabulate}
use Rattle.network.specs.Network.{Network, partner, functional}
use Rattle.network.specs.Added.{Numbered}
use Rattle.network.specs.Reach.{leads_to, reach}
use Rattle.network.specs.Order.{each_comes_once, good, before, permitted, order_of, order_refusal, find_refusal, good_order, found_order, test_order, find_order, Assembled}
use Rattle.network.proofs.Reach.{reach-path, reach-refl, reach-trans}
use Rattle.network.proofs.Order as order
use Rattle.network.proofs.Order.{once-in, once-distinct, once-place, once-i, once-same, good-same, good-each, order-taken, order-30, order-first, find-0, find-14, find-tested, test-paths, built-order-good, built-order-some}
use Rattle.head.specs.Held.{held}
use Rattle.answers.specs.Answers.{TestTold, says, refuses, test_number, test_agrees}
use Rattle.state.specs.declared.state.State.{State}
use Rattle.state.specs.View.{Shaped, view, sound_state}
use Rattle.state.proofs.View.{state-sound}
use Rattle.state_order.specs.Orders.{order_number, order_told, find_number, order_buffer}
use Rattle.state_order.specs.Planned.{EachOption, Good, NoneGoverned, TestsOrder, GoesOn, FindsOrder, led_by, PlansEvery}
use Rattle.state_order.proofs.Orders.{order-unsound, order-own, told-says, told-refuses, find-unsound, find-own, buffer-found, buffer-left}

-- The number that an answer of the test tells.
number-told : (s : State) (l : List ℕ) → test_number (order_told s l) ≡ order_number s l
unfolding test_number
number-told s l =
    by_cases (eqb (order_number s l) 0)
    (λ t. let e = eqb-true (order_number s l) 0 t in ap test_number (told-says s l e) ∙ sym e)
    (λ t. let d = eqb-false (order_number s l) 0 t in ap test_number (told-refuses s l (order_number s l) refl (omega arith)))

module _ (s : State) (l : List ℕ) where
  refused-number : (k : ℕ) → order_told s l ≡ refuses k → order_number s l ≡ k
  unfolding test_number
  refused-number k q = sym (number-told s l) ∙ ap test_number q

  said-number : (b : Bool) → order_told s l ≡ says b → order_number s l ≡ 0
  unfolding test_number
  said-number b q = sym (number-told s l) ∙ ap test_number q

-- A list of options as an order of variables: "each option exactly once and nothing else".
module _ (s : State) (l : List ℕ) where
  listed-once : length l ≡ s.n → ((p : ℕ) → p < s.n → 1 ≤ get_or l p 0) → each_comes_once s.n (order_of l) ≡ true → EachOption s l
  unfolding order_of held
  listed-once e some h = record {
    as_many = e;
    nothing_else = λ p k. let a = some p k in let b : pred (get_or l p 0) < s.n = once-in s.n (order_of l) h p k in record { from_1 = a; to_n = omega arith };
    each = λ x X.
        let a = X.from_1 in
        let b : x ≤ s.n = X.to_n in
        once-place s.n (order_of l) h (pred x) (omega arith) λ p k q.
        let c = some p k in
        let d : pred (get_or l p 0) ≡ pred x = q in
        (p, k, omega arith);
    once = λ p q lp lq r. once-distinct s.n (order_of l) h p q lp lq (ap pred r);
  }

  once-listed : EachOption s l → (length l ≡ s.n) × ((p : ℕ) → p < s.n → 1 ≤ get_or l p 0) × (each_comes_once s.n (order_of l) ≡ true)
  unfolding order_of held
  once-listed E = (
    E.as_many,
    λ p k. (E.nothing_else p k).from_1,
    once-i s.n (order_of l)
        (λ p k. let a = (E.nothing_else p k).from_1 in let b : get_or l p 0 ≤ s.n = (E.nothing_else p k).to_n in let c : pred (get_or l p 0) < s.n = omega arith in c)
        (λ p q lp lq r.
        let a = (E.nothing_else p lp).from_1 in
        let b = (E.nothing_else q lq).from_1 in
        let c : pred (get_or l p 0) ≡ pred (get_or l q 0) = r in
        E.once p q lp lq (omega arith)),
  )

module _ (s : State) (H : Shaped s) where
  -- Each number of the test has its own case.
  order-case : {A : Type 0} (l : List ℕ)
      → (sound_state s ≡ false → order_number s l ≡ 9 → A)
      → (sound_state s ≡ true → order_number s l ≡ 30 → (EachOption s l → ⊥) → A)
      → (sound_state s ≡ true → order_number s l ≡ 0 → EachOption s l → A)
      → A
  unfolding held
  order-case l a b c =
      by_cases (sound_state s)
      (λ t. let S = state-sound s H t in
      by_cases (eqb (order_refusal (view s) l) 0)
      (λ z. let e = eqb-true _ 0 z in let h = (order-taken (view s) S l).0 e in c t (order-own s l t ∙ e) (listed-once s l h.0 h.1 h.2))
      (λ z. let d = eqb-false _ 0 z in b t (order-own s l t ∙ order-30 (view s) S l d) (λ E. d ((order-taken (view s) S l).1 (once-listed s l E)))))
      (λ f. a f (order-unsound s l f))

  number_0 : (l : List ℕ) → order_number s l ≡ 0 → (sound_state s ≡ true) × EachOption s l
  number_0 l e =
      order-case l
      (λ f k. absurd (let x : ⊥ = omega arith in x))
      (λ t k d. absurd (let x : ⊥ = omega arith in x))
      (λ t k E. (t, E))

  each-0 : (l : List ℕ) → sound_state s ≡ true → EachOption s l → order_number s l ≡ 0
  each-0 l t E = order-case l (λ f k. clash t f) (λ u k d. absurd (d E)) (λ u k F. k)

  told-each : (l : List ℕ) → sound_state s ≡ true → EachOption s l → order_told s l ≡ says (test_order (view s) l)
  told-each l t E = told-says s l (each-0 l t E)

  -- The paper's sentence, and that none is before one that governs it.
  good_is : (l : List ℕ) → sound_state s ≡ true → (test_order (view s) l ≡ true) ↔ Good s l
  unfolding Good order_of held
  good_is l t = test-paths (view s) (state-sound s H t) l

  governed-is : (l : List ℕ) → sound_state s ≡ true → Good s l ↔ NoneGoverned s l
  unfolding Good NoneGoverned
  governed-is l t = (
    λ g p q k m w no. no (g p q k m w),
    λ h p q k m w.
        let path = reach-path (view s) (state-sound s H t) (pred (get_or l p 0)) (pred (get_or l q 0)) in
        by_cases (reach (view s) (pred (get_or l p 0)) (pred (get_or l q 0)))
        (λ r. path.0 r)
        (λ r. absurd (h p q k m w (λ v. clash (path.1 v) r))),
  )

  said : (l : List ℕ) → order_told s l ≡ says true → (sound_state s ≡ true) × EachOption s l × Good s l
  unfolding test_agrees
  said l q =
      let h = number_0 l (said-number s l true q) in
      (h.0, h.1, (good_is l h.0).0 (ap test_agrees (sym (told-each l h.0 h.1) ∙ q)))

  says-good : (l : List ℕ) → sound_state s ≡ true → EachOption s l → Good s l → order_told s l ≡ says true
  says-good l t E g = told-each l t E ∙ ap says ((good_is l t).1 g)

  tests : (l : List ℕ) → TestsOrder s l
  unfolding test_agrees good_order test_order held
  tests l = record {
    nine = (
      λ q. let e = refused-number s l 9 q in
          order-case l (λ f k. f) (λ t k d. absurd (let x : ⊥ = omega arith in x)) (λ t k E. absurd (let x : ⊥ = omega arith in x)),
      λ f. told-refuses s l 9 (order-unsound s l f) (omega arith),
    );
    thirty = (
      λ q. let e = refused-number s l 30 q in
          order-case l (λ f k. absurd (let x : ⊥ = omega arith in x)) (λ t k d. (t, d)) (λ t k E. absurd (let x : ⊥ = omega arith in x)),
      λ h. told-refuses s l 30 (order-case l (λ f k. clash h.0 f) (λ t k d. k) (λ t k E. absurd (h.1 E))) (omega arith),
    );
    yes_exactly = (said l, λ h. says-good l h.0 h.1 h.2);
    no_exactly = (
      λ q. let h = number_0 l (said-number s l false q) in
          (h.0, h.1, λ g. clash refl (ap test_agrees (sym (says-good l h.0 h.1 g) ∙ q))),
      λ h. told-each l h.0 h.1 ∙ ap says (not-true→false _ λ g. h.2 ((good_is l h.0).0 g)),
    );
    none_governed = (
      λ q. let h = said l q in (h.0, h.1, (governed-is l h.0).0 h.2),
      λ h. says-good l h.0 h.1 ((governed-is l h.0).1 h.2),
    );
    built_good = λ t E part A.
        told-each l t E ∙ ap says (built-order-good (view s) (state-sound s H t) (order_of l) part (once-listed s l E).2 A);
  }

  -- An order of variables as a list of options.
  module _ (t : sound_state s ≡ true) (o : ℕ → ℕ) (h : each_comes_once s.n o ≡ true) where
    abbrev listed : List ℕ
    listed = tabulate s.n (λ (p : ℕ). suc (o p))

    listed_at : (p : ℕ) → p < s.n → get_or listed p 0 ≡ suc (o p)
    listed_at p k = get_d_tabulate s.n (λ (q : ℕ). suc (o q)) p 0 k

    listed-order : (p : ℕ) → p < s.n → order_of listed p ≡ o p
    unfolding order_of
    listed-order p k = ap pred (listed_at p k)

    listed-each : EachOption s listed
    listed-each =
        listed-once s listed (length-tabulate s.n (λ (q : ℕ). suc (o q))) (λ p k. omega (arith, listed_at p k))
        (once-same s.n (order_of listed) o listed-order h)

    listed-good : good s.n (reach (view s)) o ≡ true → order_told s listed ≡ says true
    unfolding test_order good_order held
    listed-good g = told-each listed t listed-each ∙ ap says (good-same s.n (reach (view s)) (order_of listed) o listed-order g)

  -- A list that the test says yes to, as a good order of variables.
  as-good : (l : List ℕ) → order_told s l ≡ says true → (each_comes_once s.n (order_of l) ≡ true) × (good s.n (reach (view s)) (order_of l) ≡ true)
  unfolding test_order good_order held
  as-good l q = let h = said l q in ((once-listed s l h.1).2, (good_is l h.0).1 h.2)

  module _ (placed : List ℕ) (q : order_told s placed ≡ says true) (p i : ℕ) (k : p < s.n) where
    abbrev t : sound_state s ≡ true
    t = (said placed q).0

    abbrev E : EachOption s placed
    E = (said placed q).1

    exactly : ((pred i < s.n) × (permitted s.n (reach (view s)) (before (order_of placed) p) (pred i) ≡ true))
        ↔ ((o : ℕ → ℕ) × (each_comes_once s.n o ≡ true) × (good s.n (reach (view s)) o ≡ true) × ((r : ℕ) → r < p → o r ≡ order_of placed r) × (o p ≡ pred i))
    exactly =
        let S = state-sound s H t in
        let g = as-good placed q in
        order.permitted_exactly s.n (reach (view s)) (reach-refl (view s) S) (reach-trans (view s) S) (order_of placed) p k
        (λ r m. once-in s.n (order_of placed) g.0 r (omega arith))
        (λ r m. good-each s.n (reach (view s)) (reach-refl (view s) S) (reach-trans (view s) S) (order_of placed) g.0 g.1 r (omega arith))
        (pred i)

    goes_on : Numbered (view s) i → permitted s.n (reach (view s)) (before (order_of placed) p) (pred i) ≡ true → GoesOn s placed p i
    unfolding order_of held
    goes_on X h =
        let a = X.from_1 in
        let b : i ≤ s.n = X.to_n in
        let g = exactly.0 (omega arith, h) in
        record {
          order = listed t g.0 g.1;
          is_good = listed-good t g.0 g.1 g.2;
          as_placed = λ r m.
              let c = listed_at t g.0 g.1 r (omega arith) in
              let d : g.0 r ≡ pred (get_or placed r 0) = g.3 r m in
              let e = (E.nothing_else r (omega arith)).from_1 in
              omega arith;
          has_next = let c = listed_at t g.0 g.1 p k in let d = g.4 in omega arith;
        }

    may-come : GoesOn s placed p i → Numbered (view s) i × (permitted s.n (reach (view s)) (before (order_of placed) p) (pred i) ≡ true)
    unfolding order_of
    may-come G =
        let g = as-good G.order G.is_good in (
          subst (Numbered (view s)) G.has_next ((said G.order G.is_good).1.nothing_else p k),
          (exactly.1 (order_of G.order, g.0, g.1, λ r m. ap pred (G.as_placed r m), ap pred G.has_next)).1,
        )

  -- Each number of the search has its own case.
  find-case : {A : Type 0} (l : List ℕ)
      → (sound_state s ≡ false → find_number s l ≡ 9 → A)
      → (sound_state s ≡ true → find_number s l ≡ 14 → (length l ≡ s.n → ⊥) → A)
      → (sound_state s ≡ true → find_number s l ≡ 0 → length l ≡ s.n → A)
      → A
  unfolding held
  find-case l a b c =
      by_cases (sound_state s)
      (λ t. let S = state-sound s H t in
      by_cases (eqb (length l) s.n)
      (λ z. let e = eqb-true (length l) s.n z in c t (find-own s l t ∙ (find-0 (view s) S (length l)).1 e) e)
      (λ z. let d = eqb-false (length l) s.n z in b t (find-own s l t ∙ find-14 (view s) S (length l) d) d))
      (λ f. a f (find-unsound s l f))

  -- What is found, of a search that is not refused.
  module _ (l : List ℕ) (z : find_number s l ≡ 0) where
    find-sound : sound_state s ≡ true
    find-sound =
        find-case l (λ f k. absurd (let x : ⊥ = omega arith in x)) (λ t k d. absurd (let x : ⊥ = omega arith in x)) (λ t k e. t)

    found-yes : order_told s (order_buffer s l) ≡ says true
    found-yes =
        let f = find-tested (view s) (state-sound s H find-sound) in
        rw (buffer-found s l z) (told-says s (find_order (view s)) (order-own s (find_order (view s)) find-sound ∙ f.0) ∙ ap says f.1)

    found_at : (p : ℕ) → p < s.n → get_or (order_buffer s l) p 0 ≡ suc (found_order (view s) p)
    unfolding find_order held
    found_at p k = ap (λ (r : List ℕ). get_or r p 0) (buffer-found s l z) ∙ get_d_tabulate s.n _ p 0 k

    found-least : (c : List ℕ) → order_told s c ≡ says true → (p : ℕ) → p < s.n
        → ((q : ℕ) → q < p → get_or c q 0 ≡ get_or (order_buffer s l) q 0)
        → get_or (order_buffer s l) p 0 ≤ get_or c p 0
    unfolding good_order order_of held
    found-least c y p k same =
        let g = as-good c y in
        let least : found_order (view s) p ≤ pred (get_or c p 0) =
        order-first (view s) (state-sound s H find-sound) (order_of c) g.0 g.1 p k (λ q m. ap pred (same q m ∙ found_at q (omega arith))) in
        let a = ((said c y).1.nothing_else p k).from_1 in
        omega (arith, found_at p k)

  finds : (l : List ℕ) → FindsOrder s l
  finds l = record {
    nine = (
      λ e. find-case l (λ f k. f) (λ t k d. absurd (let x : ⊥ = omega arith in x)) (λ t k d. absurd (let x : ⊥ = omega arith in x)),
      find-unsound s l,
    );
    fourteen = (
      λ e. find-case l (λ f k. absurd (let x : ⊥ = omega arith in x)) (λ t k d. (t, d)) (λ t k d. absurd (let x : ⊥ = omega arith in x)),
      λ h. find-case l (λ f k. clash h.0 f) (λ t k d. k) (λ t k e. absurd (h.1 e)),
    );
    taken = (
      λ e. find-case l (λ f k. absurd (let x : ⊥ = omega arith in x)) (λ t k d. absurd (let x : ⊥ = omega arith in x)) (λ t k d. (t, d)),
      λ h. find-case l (λ f k. clash h.0 f) (λ t k d. absurd (d h.1)) (λ t k e. k),
    );
    refused_left = buffer-left s l;
    found_good = found-yes l;
    permitted_there = λ z p k. record { order = order_buffer s l; is_good = found-yes l z; as_placed = λ q m. refl; has_next = refl };
    smallest_there = λ z p i k G.
        subst (λ (x : ℕ). get_or (order_buffer s l) p 0 ≤ x) G.has_next (found-least l z G.order G.is_good p k G.as_placed);
  }

  built : sound_state s ≡ true → (l : List ℕ) × (part : ℕ → ℕ) × EachOption s l × Assembled s.n (leads_to (view s)) (order_of l) part
  unfolding held
  built t =
      let (o, part, h, A) = built-order-some (view s) (state-sound s H t) in (
        listed t o h,
        part,
        listed-each t o h,
        record {
          same_part = A.same_part;
          one_part = A.one_part;
          topological = A.topological;
          in_parts = λ p q k m. rw (listed-order t o h p (omega arith), listed-order t o h q m) (A.in_parts p q k m);
        },
      )

-- No leader is named in what the calls answer of a sound state.
module _ (s : State) (l : List ℕ) where
  unfoldable told-by : Network → TestTold
  told-by N = if (eqb (order_refusal N l) 0) (says (test_order N l)) (refuses (order_refusal N l))

  told-own : sound_state s ≡ true → order_told s l ≡ told-by (view s)
  unfolding order_told told-by
  told-own t = ap (λ (k : ℕ). if (eqb k 0) (says (test_order (view s) l)) (refuses k)) (order-own s l t)

  left-own : sound_state s ≡ true → order_buffer s l ≡ if (eqb (find_refusal (view s) (length l)) 0) (find_order (view s)) l
  unfolding order_buffer
  left-own t = ap (λ (k : ℕ). if (eqb k 0) (find_order (view s)) l) (find-own s l t)

module _ (s : State) (leaders : List ℕ) (t : sound_state s ≡ true) (u : sound_state (led_by s leaders) ≡ true) (l : List ℕ) where
  led-told : order_told (led_by s leaders) l ≡ order_told s l
  unfolding told-by order_refusal test_order good_order reach leads_to functional partner held
  led-told = told-own (led_by s leaders) l u ∙ sym (told-own s l t)

  led-left : order_buffer (led_by s leaders) l ≡ order_buffer s l
  unfolding find_refusal find_order found_order reach leads_to functional partner held
  led-left = left-own (led_by s leaders) l u ∙ sym (left-own s l t)

pub plans : PlansEvery
unfolding PlansEvery
plans s H = record {
  tests = tests s H;
  finds = finds s H;
  found_first = λ l c z y. found-least s H l z c y;
  permitted_exactly = λ placed q p i k. (λ h. goes_on s H placed q p i k h.0 h.1, may-come s H placed q p i k);
  built_some = built s H;
  leaders_no_part = λ leaders t u l. (led-told s leaders t u l, led-left s leaders t u l);
}
