-- How many bins an entry changes: each value has one record, counted over the list of places.
use mathlib.Core.Bool.{Bool, true, false}
use mathlib.Core.List.{List, [], ◌∷◌, map, ◌++◌}
use mathlib.Core.Path.{◌≡◌, refl, sym, ap, ◌∙◌}
use Prim.Native.Nat.{ℕ, zero, suc, ◌+◌, ◌-◌, ◌<◌, ◌≤◌, ◌^◌}
use native.Mathlib.Omega.{arith}
use lib.Dec.{eqb, ltb}
use lib.ListN.{length, get_or}
use borrow.Author.Tests.{lt-ltb, eqb-true, eqb-false, eq-eqb, ne_eqb, ltb-true, ltb-false}
use Rattle.bounded.specs.Bool.{and, bit, if}
use Rattle.bounded.specs.Fold.{every}
use Rattle.bounded.proofs.Bool.{by_cases, clash, bool-ext, not-true→false, and_l, and_r, and_i, and-fails, and-false, and-holds, bit-true, bit-false, if-true, if-false}
use Rattle.bounded.proofs.Fold.{every-e}
use Rattle.network.specs.Added.{Numbered}
use Rattle.network.specs.Network.{test_refusal}
use Rattle.head.specs.Held.{held}
use Rattle.bins.specs.declared.Bin.{Bin}
use Rattle.bins.specs.Bins.{Place, place, no_bin, values_from, places_from, places, is_of, of_solution, with_count}
use Rattle.bins.proofs.Lists.{get_d_map}
use Rattle.answers.specs.Answers.{says, refuses, test_agrees}
use Rattle.state.specs.declared.state.State.{State}
use Rattle.state.specs.View.{view}
use Rattle.state.specs.Solutions.{values_of, tested}
use Rattle.state.proofs.Solutions.{build-taken}
use Rattle.state_bins.specs.Bins.{bin_places, delivery_number, delivered_bins, call_off_number, called_off_bins}
use Rattle.state_bins.specs.Refuses.{ValueOf, WouldExceed, TooLow}
use Rattle.state_bins.specs.Stock.{tally, StockLaw, DeliveryLaw, CallOffLaw}
use Rattle.state_bins.proofs.Refuses.{says-yes, delivery-refuses, call-off-refuses}

module _ (o v : ℕ) where
  hit : Place → Bool
  hit p = and (eqb p.0 o) (eqb p.1 v)

  hits : List Place → ℕ
  hits [] = 0
  hits (p ∷ ps) = bit (hit p) + hits ps

  hits-bins : (bs : List Bin) → tally (is_of o v) bs ≡ hits (map place bs)
  unfolding is_of hit hits
  hits-bins [] = refl
  hits-bins (b ∷ bs) = ap (λ (k : ℕ). bit (and (eqb b.variable o) (eqb b.value v)) + k) (hits-bins bs)

  hits_join : (ps qs : List Place) → hits (ps ++ qs) ≡ hits ps + hits qs
  unfolding hits
  hits_join [] qs = omega arith
  hits_join (p ∷ ps) qs = ap (λ (k : ℕ). bit (hit p) + k) (hits_join ps qs) ∙ assoc (bit (hit p)) (hits ps) (hits qs)
    where
      assoc : (x y z : ℕ) → x + (y + z) ≡ (x + y) + z
      assoc x y z = omega arith

  miss : (p : Place) (ps : List Place) → hit p ≡ false → hits (p ∷ ps) ≡ hits ps
  unfolding hits
  miss p ps h = ap (λ (k : ℕ). k + hits ps) (bit-false (hit p) h) ∙ none (hits ps)
    where
      none : (x : ℕ) → 0 + x ≡ x
      none x = omega arith

  match : (p : Place) (ps : List Place) → hit p ≡ true → hits (p ∷ ps) ≡ 1 + hits ps
  unfolding hits
  match p ps h = ap (λ (k : ℕ). k + hits ps) (bit-true (hit p) h)

  -- The values of another option, those past v, and all of v's option.
  values_other : (variable w k : ℕ) → (variable ≡ o → ⊥) → hits (values_from variable w k) ≡ 0
  unfolding values_from hit hits
  values_other variable w zero d = refl
  values_other variable w (suc k) d = miss (variable, w) (values_from variable (suc w) k) (and-fails _ _ (ne_eqb variable o d)) ∙ values_other variable (suc w) k d

  values-past : (w k : ℕ) → v < w → hits (values_from o w k) ≡ 0
  unfolding values_from hit hits
  values-past w zero l = refl
  values-past w (suc k) l = miss (o, w) (values_from o (suc w) k) (ap (and (eqb o o)) (ne_eqb w v (λ e. far e)) ∙ and-false _) ∙ values-past (suc w) k (omega (arith, l))
    where
      far : w ≡ v → ⊥
      far e = omega (arith, e, l)

  values_one : (w k : ℕ) → w ≤ v → v < w + k → hits (values_from o w k) ≡ 1
  unfolding values_from hit
  values_one w zero l h = absurd (no)
    where
      no : ⊥
      no = omega (arith, l, h)
  values_one w (suc k) l h =
      by_cases (eqb w v)
      (λ t. match (o, w) (values_from o (suc w) k) (and_i _ _ (eq-eqb o o refl) t) ∙ ap (λ (x : ℕ). 1 + x) (values-past (suc w) k (next (eqb-true w v t))))
      (λ t. miss (o, w) (values_from o (suc w) k) (ap (and (eqb o o)) t ∙ and-false _) ∙ values_one (suc w) k (later (eqb-false w v t)) (omega (arith, h)))
    where
      next : w ≡ v → v < suc w
      next e = omega (arith, e)

      later : (w ≡ v → ⊥) → suc w ≤ v
      later d = omega (arith, d, l)

  module _ (size : ℕ → ℕ) where
    variables-past : (i m : ℕ) → o ≤ i → hits (places_from size i m) ≡ 0
    unfolding places_from hits
    variables-past i zero l = refl
    variables-past i (suc m) l =
        hits_join (values_from (suc i) 0 (size i)) (places_from size (suc i) m)
        ∙ (λ j. values_other (suc i) 0 (size i) far j + variables-past (suc i) m (omega (arith, l)) j)
      where
        far : suc i ≡ o → ⊥
        far e = omega (arith, e, l)

    variables-one : (i m : ℕ) → i < o → o ≤ i + m → v < size (o - 1) → hits (places_from size i m) ≡ 1
    unfolding places_from
    variables-one i zero l h s = absurd no
      where
        no : ⊥
        no = omega (arith, l, h)
    variables-one i (suc m) l h s =
        hits_join (values_from (suc i) 0 (size i)) (places_from size (suc i) m)
        ∙ by_cases (eqb (suc i) o)
        (λ t. λ j. (ap (λ (k : ℕ). hits (values_from k 0 (size i))) (eqb-true (suc i) o t) ∙ values_one 0 (size i) (omega arith) (here (eqb-true (suc i) o t))) j + variables-past (suc i) m (past (eqb-true (suc i) o t)) j)
        (λ t. λ j. values_other (suc i) 0 (size i) (eqb-false (suc i) o t) j + variables-one (suc i) m (later (eqb-false (suc i) o t)) (omega (arith, h)) s j)
      where
        same : suc i ≡ o → o - 1 ≡ i
        same e = omega (arith, e)

        here : suc i ≡ o → v < 0 + size i
        here e = let q : size (o - 1) ≡ size i = ap size (same e) in omega (arith, q, s)

        past : suc i ≡ o → o ≤ suc i
        past e = omega (arith, e)

        later : (suc i ≡ o → ⊥) → suc i < o
        later d = omega (arith, d, l)

pub stock-law : (s : State) (bins : List Bin) → StockLaw s bins
unfolding bin_places places held
stock-law s bins e variable value v =
    hits-bins variable value bins ∙ ap (hits variable value) e
    ∙ variables-one variable value (λ (i : ℕ). get_or s.sizes i 0) 0 s.n v.numbered.from_1 inside v.below_size
  where
    inside : variable ≤ 0 + s.n
    inside = omega (arith, v.numbered.to_n)

-- ---- a delivery that is taken
is-place : (variable value : ℕ) (b : Bin) → (is_of variable value b ≡ true) → place b ≡ (variable, value)
unfolding is_of
is-place variable value b t = λ i. (eqb-true _ variable (and_l _ _ t) i, eqb-true _ value (and_r _ _ t) i)

at_place : (variable value : ℕ) (b : Bin) → place b ≡ (variable, value) → is_of variable value b ≡ true
unfolding is_of
at_place variable value b e = and_i _ _ (eq-eqb _ variable (ap (λ (p : Place). p.0) e)) (eq-eqb _ value (ap (λ (p : Place). p.1) e))

module _ (s : State) (bins : List Bin) (variable value amount : ℕ) (z : delivery_number s bins variable value amount ≡ 0) where
  delivered-at : (i : ℕ) → i < length bins → (t : Bool) → is_of variable value (get_or bins i no_bin) ≡ t
      → get_or (delivered_bins s bins variable value amount) i no_bin ≡ if t (with_count (get_or bins i no_bin) ((get_or bins i no_bin).count + amount)) (get_or bins i no_bin)
  unfolding delivered_bins
  delivered-at i l t e =
      ap (λ (bs : List Bin). get_or bs i no_bin) (if-true _ _ _ (eq-eqb _ 0 z)) ∙ get_d_map _ bins i l
      ∙ ap (λ (x : Bool). if x (with_count (get_or bins i no_bin) ((get_or bins i no_bin).count + amount)) (get_or bins i no_bin)) e

  fits : (WouldExceed bins variable value amount → ⊥) → (i : ℕ) → i < length bins → place (get_or bins i no_bin) ≡ (variable, value)
      → (get_or bins i no_bin).count + amount < 2 ^ 32
  fits n i l e =
      by_cases (ltb ((get_or bins i no_bin).count + amount) (2 ^ 32)) (ltb-true _ (2 ^ 32))
      (λ t. absurd (n (record { which = i; inside = l; its_place = e; too_many = ltb-false _ (2 ^ 32) t })))

pub delivery-law : (s : State) (bins : List Bin) (variable value amount : ℕ) → DeliveryLaw s bins variable value amount
unfolding if
delivery-law s bins variable value amount z =
    let r = (delivery-refuses s bins variable value amount).number_0.0 z in
    record {
      one_bin = stock-law s bins r.1.0 variable value r.1.1.0;
      its_count = λ i l e. (
        ap (λ (b : Bin). b.count) (delivered-at s bins variable value amount z i l true (at_place variable value _ e)),
        fits s bins variable value amount z r.1.1.1 i l e,
      );
      the_others = λ i l d.
          delivered-at s bins variable value amount z i l false (not-true→false _ (λ t. d (is-place variable value _ t)));
    }

-- ---- a call-off that is taken
eqb-sym : (x y : ℕ) → eqb x y ≡ eqb y x
eqb-sym x y = bool-ext (eqb x y) (eqb y x) (λ t. eq-eqb y x (sym (eqb-true x y t))) (λ t. eq-eqb x y (sym (eqb-true y x t)))

tally-cong : (f g : Bin → Bool) → ((b : Bin) → f b ≡ g b) → (bs : List Bin) → tally f bs ≡ tally g bs
tally-cong f g h [] = refl
tally-cong f g h (b ∷ bs) = λ i. bit (h b i) + tally-cong f g h bs i

drawn-one : (solution : List ℕ) (o : ℕ) → 1 ≤ o → (b : Bin) → and (eqb b.variable o) (of_solution solution b) ≡ is_of o (get_or solution (o - 1) 0) b
unfolding of_solution is_of
drawn-one solution o l b =
    by_cases (eqb b.variable o)
    (λ t. let q : b.variable ≡ o = eqb-true b.variable o t in
    ap (and (eqb b.variable o))
    (ap (λ (k : ℕ). and (ltb 0 k) (eqb (get_or solution (k - 1) 0) b.value)) q ∙ and-holds _ _ (lt-ltb 0 o l) ∙ eqb-sym (get_or solution (o - 1) 0) b.value))
    (λ t. and-fails _ _ t ∙ sym (and-fails _ _ t))

no-refusal : (k : ℕ) (x : Bool) → test_agrees (if (eqb k 0) (says x) (refuses k)) ≡ true → k ≡ 0
unfolding test_agrees
no-refusal k x a =
    by_cases (eqb k 0) (λ t. eqb-true k 0 t)
    (λ t. clash {b = false} (sym (ap test_agrees (if-false _ (says x) (refuses k) t)) ∙ a) refl)

in-range : (b : Bool) → if {A = ℕ} b 0 15 ≡ 0 → b ≡ true
in-range b e = by_cases b (λ t. t) (λ t. absurd (let x : ⊥ = omega (arith, sym (if-false b 0 15 t) ∙ e) in x))

-- The values of a solution are values of the state.
pub solution-values : (s : State) (solution : List ℕ) → tested s solution ≡ says true → (variable : ℕ) → Numbered (view s) variable
    → ValueOf s variable (get_or solution (variable - 1) 0)
unfolding tested test_refusal held values_of
solution-values s solution y variable N =
    let k = build-taken s solution _ (no-refusal _ _ ((says-yes (tested s solution)).1 y)) in
    record { numbered = N; below_size = ltb-true _ _ (every-e s.n below (in-range (every s.n below) k.2) (variable - 1) inside) }
  where
    below : ℕ → Bool
    below i = ltb (get_or solution i 0) (get_or s.sizes i 0)

    inside : variable - 1 < s.n
    inside = omega (arith, N.from_1, N.to_n)

module _ (s : State) (bins : List Bin) (solution : List ℕ) (amount : ℕ) (z : call_off_number s bins solution amount ≡ 0) where
  drawn-at : (i : ℕ) → i < length bins → (t : Bool) → of_solution solution (get_or bins i no_bin) ≡ t
      → get_or (called_off_bins s bins solution amount) i no_bin ≡ if t (with_count (get_or bins i no_bin) ((get_or bins i no_bin).count - amount)) (get_or bins i no_bin)
  unfolding called_off_bins
  drawn-at i l t e =
      ap (λ (bs : List Bin). get_or bs i no_bin) (if-true _ _ _ (eq-eqb _ 0 z)) ∙ get_d_map _ bins i l
      ∙ ap (λ (x : Bool). if x (with_count (get_or bins i no_bin) ((get_or bins i no_bin).count - amount)) (get_or bins i no_bin)) e

  enough : (TooLow bins solution amount → ⊥) → (i : ℕ) → i < length bins → of_solution solution (get_or bins i no_bin) ≡ true → amount ≤ (get_or bins i no_bin).count
  unfolding of_solution
  enough n i l t =
      by_cases (ltb (get_or bins i no_bin).count amount)
      (λ h. absurd (n (record {
        which = i;
        inside = l;
        from_1 = ltb-true 0 _ (and_l _ _ t);
        its_value = eqb-true _ _ (and_r _ _ t);
        too_few = ltb-true _ amount h;
      })))
      (ltb-false _ amount)

back : (c c' k : ℕ) → c' ≡ c - k → k ≤ c → c' + k ≡ c
back c c' k e l = omega (arith, e, l)

pub call-off-law : (s : State) (bins : List Bin) (solution : List ℕ) (amount : ℕ) → CallOffLaw s bins solution amount
unfolding if
call-off-law s bins solution amount z =
    let r = (call-off-refuses s bins solution amount).number_0.0 z in
    record {
      one_bin = λ variable N.
          tally-cong _ _ (drawn-one solution variable N.from_1) bins
          ∙ stock-law s bins r.1.0 variable (get_or solution (variable - 1) 0) (solution-values s solution r.1.1.0 variable N);
      its_count = λ i l t.
          back (get_or bins i no_bin).count _ amount (ap (λ (b : Bin). b.count) (drawn-at s bins solution amount z i l true t))
          (enough s bins solution amount z r.1.1.1 i l t);
      the_others = λ i l t. drawn-at s bins solution amount z i l false t;
    }
