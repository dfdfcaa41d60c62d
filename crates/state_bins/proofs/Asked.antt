-- An entry as plain data comes to what the definitions over states and lists of bins say.
use mathlib.Core.Bool.{Bool, true, false}
use mathlib.Core.List.{List}
use mathlib.Core.Path.{◌≡◌, refl, sym, ap, fun_ext, ◌∙◌}
use Prim.Native.Nat.{ℕ, ◌-◌, ◌≤◌, ◌<◌}
use native.Mathlib.Omega.{arith}
use lib.Dec.{eqb, ltb}
use lib.ListN.{get_or, length, get_or-eq_default}
use borrow.Author.Tests.{eqb-true}
use Rattle.bounded.specs.Bool.{and, or, not, if}
use Rattle.bounded.specs.Table.{tabulate}
use Rattle.bounded.proofs.Array.{get_d-table}
use Rattle.bounded.proofs.Bool.{by_cases, and-false, if-true, if-false}
use Rattle.network.specs.Network.{test_refusal}
use Rattle.head.specs.Held.{HeadShaped, held}
use Rattle.head.proofs.Held.{held-n, held-sound}
use Rattle.bins.specs.declared.Bin.{Bin}
use Rattle.bins.specs.declared.Plan.{Plan}
use Rattle.bins.specs.Bins.{stand_at, any, is_of, of_solution, added, drawn}
use Rattle.bins.specs.Plans.{named, exact, too_high, too_low, number_found, plan_number}
use Rattle.bins.proofs.Lists.{any_none}
use Rattle.bins.proofs.Places.{exact-is}
use Rattle.answers.specs.Answers.{says, refuses, test_number, test_agrees}
use Rattle.state.specs.declared.state.State.{State}
use Rattle.state.specs.View.{head_in, view, sound_state}
use Rattle.state.specs.Solutions.{values_of, solution_refusal, tested}
use Rattle.state.proofs.Solutions.{yes-solves}
use Rattle.state_bins.specs.Bins.{bin_places, bins_refusal, has_value, exceeds, delivery_number, delivered_bins, lacks, call_off_number, called_off_bins}
use Rattle.state_bins.proofs.Refuses.{says-yes, call-off-refuses}
use Rattle.state_bins.specs.Asked.{delivery_refusal, call_off_refusal, Delivers, CallsOff}

-- ---- the answers, by what is tested
abbrev told : ℕ → (exact high low : Bool) → ℕ
told r e h l = if (eqb r 9) 9 (if (not e) 27 (if (or (not (eqb r 0)) h) 28 (if l 29 0)))

delivery-answer : (snd ok e e' h : Bool) → (snd ≡ true → e ≡ e')
    → told (if (not snd) 9 (if ok 0 28)) e h false ≡ if (not snd) 9 (if (not e') 27 (if (or (not ok) h) 28 0))
unfolding if not or
delivery-answer false ok e e' h q = refl
delivery-answer true true e e' h q = ap (λ (t : Bool). if {A = ℕ} (not t) 27 (if h 28 0)) (q refl)
delivery-answer true false e e' h q = ap (λ (t : Bool). if {A = ℕ} (not t) 27 28) (q refl)

call-off-answer : (snd ok e e' l l' : Bool) → (snd ≡ true → e ≡ e') → (snd ≡ true → ok ≡ true → l ≡ l')
    → told (if (not snd) 9 (if ok 0 28)) e false l ≡ if (not snd) 9 (if (not e') 27 (if (not ok) 28 (if l' 29 0)))
unfolding if not or
call-off-answer false ok e e' l l' q m = refl
call-off-answer true true e e' l l' q m = λ i. if {A = ℕ} (not (q refl i)) 27 (if (m refl refl i) 29 0)
call-off-answer true false e e' l l' q m = ap (λ (t : Bool). if {A = ℕ} (not t) 27 28) (q refl)

-- ---- the tester's number, and its yes
number-told : (k : ℕ) (x : Bool) → test_number (if (eqb k 0) (says x) (refuses k)) ≡ k
unfolding test_number
number-told k x = by_cases (eqb k 0) (λ t. ap test_number (if-true _ (says x) (refuses k) t) ∙ sym (eqb-true k 0 t)) (λ t. ap test_number (if-false _ (says x) (refuses k) t))

nine : (snd len ev : Bool) → eqb (if (not snd) 9 (if (not len) 14 (if ev 0 15))) 9 ≡ not snd
unfolding if not
nine false len ev = refl
nine true false ev = refl
nine true true true = refl
nine true true false = refl

module _ (s : State) (H : HeadShaped (head_in s)) where
  sound-past : sound_state s ≡ true → (o : ℕ) → s.n ≤ o → get_or s.sizes o 0 ≡ 0
  unfolding held
  sound-past t o m = (held-sound (head_in s) s.rows H t).size_past o m

  sound-some : sound_state s ≡ true → (o : ℕ) → o < s.n → 1 ≤ get_or s.sizes o 0
  unfolding held
  sound-some t o l = (held-sound (head_in s) s.rows H t).sizes o l

  -- ---- a delivery
  module _ (variable value amount r : ℕ) (values : List ℕ) (e : r ≡ delivery_refusal s variable value) where
    abbrev adding : Plan
    adding = record { refusal = r; n = s.n; sizes = s.sizes; adds = true; variable = variable; value = value; values = values; amount = amount }

    none-low : (bs : List Bin) → any (too_low adding) bs ≡ false
    unfolding too_low and not
    none-low bs = any_none (too_low adding) (λ b. and-false (named adding b)) bs

    delivery-number : (bs : List Bin) → plan_number adding bs ≡ delivery_number s bs variable value amount
    unfolding number_found delivery_refusal delivery_number bins_refusal bin_places too_high named exceeds if and
    delivery-number bs =
        (λ i. told (e i) (exact adding 0 0 bs) (any (too_high adding) bs) (none-low bs i))
        ∙ delivery-answer (sound_state s) (has_value s variable value) (exact adding 0 0 bs) (stand_at bs (bin_places s)) (any (exceeds variable value amount) bs) (λ t. exact-is adding (sound-past t) (sound-some t) bs)

    pub delivers : Delivers adding s variable value amount
    unfolding delivered_bins named if
    delivers bs = (delivery-number bs, ap (λ (k : ℕ). if (eqb k 0) (added (is_of variable value) amount bs) bs) (delivery-number bs))

  -- ---- a call-off
  module _ (solution : List ℕ) (amount r : ℕ) (values : List ℕ) (e : r ≡ call_off_refusal s solution) (sixteen : values ≡ tabulate 16 (values_of solution)) where
    abbrev drawing : Plan
    drawing = record { refusal = r; n = s.n; sizes = s.sizes; adds = false; variable = 0; value = 0; values = values; amount = amount }

    is-nine : eqb (test_number (tested s solution)) 9 ≡ not (sound_state s)
    unfolding tested solution_refusal test_refusal
    is-nine = ap (λ (k : ℕ). eqb k 9) (number-told (solution_refusal s solution (test_refusal (view s) (values_of solution))) _) ∙ nine (sound_state s) (eqb (length solution) s.n) _

    long : sound_state s ≡ true → test_agrees (tested s solution) ≡ true → length solution ≤ 16
    long t y = omega (arith, (yes-solves s H t solution ((says-yes (tested s solution)).0 y)).0, held-n (head_in s) s.rows t)

    same-values : length solution ≤ 16 → (k : ℕ) → get_or values k 0 ≡ get_or solution k 0
    unfolding values_of
    same-values l k = ap (λ (v : List ℕ). get_or v k 0) sixteen ∙ get_d-table 16 (values_of solution) k (λ m. get_or-eq_default solution 0 (omega (arith, l, m)))

    same_bins : length solution ≤ 16 → of_solution values ≡ of_solution solution
    unfolding of_solution
    same_bins l = fun_ext (λ (b : Bin). ap (λ (k : ℕ). and (ltb 0 b.variable) (eqb k b.value)) (same-values l (b.variable - 1)))

    none-high : (bs : List Bin) → any (too_high drawing) bs ≡ false
    unfolding too_high and
    none-high bs = any_none (too_high drawing) (λ b. and-false (named drawing b)) bs

    low_is : (bs : List Bin) → length solution ≤ 16 → any (too_low drawing) bs ≡ any (lacks solution amount) bs
    unfolding too_low named lacks if and not
    low_is bs l = ap (λ (f : Bin → Bool). any (λ (b : Bin). and (f b) (ltb b.count amount)) bs) (same_bins l)

    call-off-number : (bs : List Bin) → plan_number drawing bs ≡ call_off_number s bs solution amount
    unfolding number_found call_off_refusal call_off_number bins_refusal bin_places
    call-off-number bs =
        (λ i. told ((e ∙ ap (λ (t : Bool). if t 9 (if (test_agrees (tested s solution)) 0 28)) is-nine) i) (exact drawing 0 0 bs) (none-high bs i) (any (too_low drawing) bs))
        ∙ call-off-answer (sound_state s) (test_agrees (tested s solution)) (exact drawing 0 0 bs) (stand_at bs (bin_places s)) (any (too_low drawing) bs) (any (lacks solution amount) bs)
        (λ t. exact-is drawing (sound-past t) (sound-some t) bs) (λ t y. low_is bs (long t y))

    taken : (bs : List Bin) → call_off_number s bs solution amount ≡ 0 → length solution ≤ 16
    taken bs z = let t = (call-off-refuses s bs solution amount).number_0.0 z in long t.0 ((says-yes (tested s solution)).1 t.1.1.0)

    pub calls-off : CallsOff drawing s solution amount
    unfolding called_off_bins named if
    calls-off bs = (call-off-number bs, ap (λ (k : ℕ). if (eqb k 0) (drawn (of_solution values) amount bs) bs) (call-off-number bs) ∙ drawn-is)
      where
        drawn-is : if (eqb (call_off_number s bs solution amount) 0) (drawn (of_solution values) amount bs) bs ≡ if (eqb (call_off_number s bs solution amount) 0) (drawn (of_solution solution) amount bs) bs
        drawn-is =
            by_cases (eqb (call_off_number s bs solution amount) 0)
            (λ t. ap (λ (f : Bin → Bool). if (eqb (call_off_number s bs solution amount) 0) (drawn f amount bs) bs) (same_bins (taken bs (eqb-true _ 0 t))))
            (λ t. if-false _ _ bs t ∙ sym (if-false _ _ bs t))
