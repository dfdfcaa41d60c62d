-- The turns of the search, one law for each, and that at the start they give what `searched` says.
use mathlib.Core.Bool.{Bool, true, false}
use mathlib.Core.Logic.{◌↔◌}
use mathlib.Core.Path.{◌≡◌, sym, ◌∙◌}
use Prim.Native.Nat.{ℕ, ◌+◌, ◌≤◌, ◌<◌}
use native.Mathlib.Omega.{arith}
use lib.Dec.{eqb, ltb}
use borrow.Author.Tests.{ne_eqb, eqb-true, eqb-false, ltb-true, ltb-false}
use Rattle.bounded.specs.Bool.{and, not}
use Rattle.bounded.proofs.Bool.{by_cases, clash, not-true→false, and_i, and_l, and_r, implies-i, implies-e, not-i}
use Rattle.network.specs.Network.{Network, free}
use Rattle.network.specs.Sound.{Sound}
use Rattle.network.specs.Completion.{completed, allowed_choice}
use Rattle.network.specs.Search.{precedes, IsFirst, none, found, searched, sought}
use Rattle.network.specs.Turns.{ChoiceFrom, UptoFrom, FirstFrom, Narrows}
use Rattle.network.proofs.Completion.{allowed-domain, allowed-pair, allowed-i}
use Rattle.network.proofs.Search.{not-before-i, not-before-e, found-is-not-none, first-searched, searched-settles, sought-found, completed-same}

-- A number from k on is k or above it.
pub from-here : {A : Type 0} (k i : ℕ) → k ≤ i → (i ≡ k → A) → (k + 1 ≤ i → A) → A
from-here k i l here above =
    by_cases (eqb i k) (λ t. here (eqb-true i k t)) (λ t. let d : i ≡ k → ⊥ = eqb-false i k t in above (omega arith))

module _ (N : Network) where
  -- No variable is left: whatever f is, it is a choice.
  pub first-end : (D : ℕ → ℕ → Bool) (k : ℕ) (b : Bool) (f : ℕ → ℕ) → k ≡ N.n → b ≡ true → FirstFrom N D k b f
  first-end D k b f e t =
      record {
        found_is = λ _.
            record {
              listed = λ i a l. absurd (let x : ⊥ = omega arith in x);
              allowed = λ i j a l m. absurd (let x : ⊥ = omega arith in x);
            };
        found_first = λ _ g c x a l. absurd (let y : ⊥ = omega arith in y);
        none_is = λ q. clash t q;
      }

  -- k is eliminated: it makes no difference.
  module _ (D : ℕ → ℕ → Bool) (k : ℕ) (led : free N k ≡ false) where
    pub skip-down : (g : ℕ → ℕ) → ChoiceFrom N D k g → ChoiceFrom N D (k + 1) g
    skip-down g c = record { listed = λ i a. c.listed i (omega arith); allowed = λ i j a. c.allowed i j (omega arith) }

    pub skip-up : (g : ℕ → ℕ) → ChoiceFrom N D (k + 1) g → ChoiceFrom N D k g
    skip-up g c =
        record {
          listed = λ i a l t. from-here k i a (λ e. clash (rw e at t) led) (λ m. c.listed i m l t);
          allowed = λ i j a l m t u s. from-here k i a (λ e. clash (rw e at t) led) (λ r. c.allowed i j r l m t u s);
        }

    pub first-skip : (b : Bool) (f : ℕ → ℕ) → FirstFrom N D (k + 1) b f → FirstFrom N D k b f
    first-skip b f p =
        record {
          found_is = λ t. skip-up f (p.found_is t);
          found_first = λ t g c x a l u same.
              from-here k x a (λ e. clash (rw e at u) led)
              (λ m. p.found_first t g (skip-down g c) x m l u (λ i r. same i (omega arith)));
          none_is = λ t g c. p.none_is t g (skip-down g c);
        }

  -- k is free.
  module _ {D : ℕ → ℕ → Bool} (k : ℕ) (k_in : k < N.n) (k_free : free N k ≡ true) where
    -- Nothing is left in its domain.
    pub first-none : (b : Bool) (f : ℕ → ℕ) → ((v : ℕ) → D k v ≡ false) → b ≡ false → FirstFrom N D k b f
    first-none b f e t =
        record {
          found_is = λ q. clash q t;
          found_first = λ q. clash q t;
          none_is = λ _ g c. clash (c.listed k (omega arith) k_in k_free) (e (g k));
        }

    -- It takes the value v.
    module _ (v : ℕ) {E : ℕ → ℕ → Bool} (W : Narrows N D k v E) where
      pub chosen : (g : ℕ → ℕ) → g k ≡ v → ChoiceFrom N D k g → ChoiceFrom N E (k + 1) g
      chosen g e c =
          record {
            listed = λ j a l t.
                W.later j (g j) (omega arith) l t
                ∙ and_i _ _ (c.listed j (omega arith) l t)
                (implies-i _ _ (λ s. rw e at (c.allowed k j (omega arith) (omega arith) l k_free t s)));
            allowed = λ i j a. c.allowed i j (omega arith);
          }

      pub given : (g : ℕ → ℕ) → g k ≡ v → D k v ≡ true → ChoiceFrom N E (k + 1) g → ChoiceFrom N D k g
      given g e d c =
          record {
            listed = λ i a l t. from-here k i a
                (λ q. rw (q, e) d)
                (λ m. and_l _ _ (sym (W.later i (g i) (omega arith) l t) ∙ c.listed i m l t));
            allowed = λ i j a l m t u s. from-here k i a
                (λ q. let r : k < j = omega arith in
                rw (q, e) (implies-e _ _ (and_r _ _ (sym (W.later j (g j) r m u) ∙ c.listed j (omega arith) m u)) (rw q at s)))
                (λ r. c.allowed i j r l m t u s);
          }

      -- Where the rest can be chosen, that is the first choice: v is the lowest value of k.
      pub first-hit : {b c : Bool} {f g : ℕ → ℕ} → D k v ≡ true → ((u : ℕ) → u < v → D k u ≡ false)
          → FirstFrom N E (k + 1) c g → c ≡ true
          → f k ≡ v → ((i : ℕ) → k + 1 ≤ i → f i ≡ g i) → b ≡ true
          → FirstFrom N D k b f
      first-hit {f} {g} d lowest p q at-k other t =
          record {
            found_is = λ _. given f at-k d (moved (p.found_is q));
            found_first = λ _ h r x a l u same.
                from-here k x a
                (λ z. rw (z, at-k) (least h r))
                (λ m. rw (other x m) (p.found_first q h (chosen h (sym (same k (omega arith) (omega arith) k_free) ∙ at-k) r) x m l u
                (λ i n o w. sym (other i n) ∙ same i (omega arith) o w)));
            none_is = λ z. clash t z;
          }
        where
          moved : ChoiceFrom N E (k + 1) g → ChoiceFrom N E (k + 1) f
          moved r =
              record {
                listed = λ i a l u. rw (other i a) (r.listed i a l u);
                allowed = λ i j a l m u w s. rw (other i a, other j (omega arith)) (r.allowed i j a l m u w s);
              }

          least : (h : ℕ → ℕ) → ChoiceFrom N D k h → v ≤ h k
          least h r =
              by_cases (ltb (h k) v)
              (λ z. clash (r.listed k (omega arith) k_in k_free) (lowest (h k) (ltb-true _ _ z)))
              (λ z. ltb-false _ _ z)

      -- Where the rest cannot be chosen, the first choice is one with another value of k: v is dropped.
      pub first-miss : {b c : Bool} {f g : ℕ → ℕ} (F : ℕ → ℕ → Bool)
          → ((u : ℕ) → F k u ≡ and (D k u) (not (eqb u v))) → ((i u : ℕ) → (i ≡ k → ⊥) → F i u ≡ D i u)
          → FirstFrom N E (k + 1) c g → c ≡ false → FirstFrom N F k b f → FirstFrom N D k b f
      first-miss {f} F dropped rest p q r =
          record {
            found_is = λ t. wider (r.found_is t);
            found_first = λ t h s. r.found_first t h (tighter h s);
            none_is = λ t h s. r.none_is t h (tighter h s);
          }
        where
          wider : ChoiceFrom N F k f → ChoiceFrom N D k f
          wider s =
              record {
                listed = λ i a l t. from-here k i a
                    (λ e. rw e (and_l _ _ (sym (dropped (f k)) ∙ s.listed k (omega arith) k_in k_free)))
                    (λ m. sym (rest i (f i) (λ e. let x : ⊥ = omega arith in x)) ∙ s.listed i a l t);
                allowed = s.allowed;
              }

          tighter : (h : ℕ → ℕ) → ChoiceFrom N D k h → ChoiceFrom N F k h
          tighter h s =
              record {
                listed = λ i a l t. from-here k i a
                    (λ e. rw e (dropped (h k)
                    ∙ and_i _ _ (s.listed k (omega arith) k_in k_free) (not-i _ (ne_eqb (h k) v (λ z. p.none_is q h (chosen h z s))))))
                    (λ m. rest i (h i) (λ e. let x : ⊥ = omega arith in x) ∙ s.listed i a l t);
                allowed = s.allowed;
              }

      -- Where the rest cannot be chosen and v narrowed the domain of no later free variable, no other value does better.
      pub first-stuck : {b c : Bool} {f g : ℕ → ℕ} → ((j u : ℕ) → k < j → j < N.n → free N j ≡ true → E j u ≡ D j u)
          → FirstFrom N E (k + 1) c g → c ≡ false → b ≡ false → FirstFrom N D k b f
      first-stuck same p q t =
          record {
            found_is = λ z. clash z t;
            found_first = λ z. clash z t;
            none_is = λ _ h s. p.none_is q h
                (record {
                  listed = λ j a l u. same j (h j) (omega arith) l u ∙ s.listed j (omega arith) l u;
                  allowed = λ i j a. s.allowed i j (omega arith);
                });
          }

-- At the start: all free variables, within their own domains.
module _ (N : Network) (S : Sound N) where
  pub choice-allowed : (f : ℕ → ℕ) → ChoiceFrom N N.domain 0 f ↔ (allowed_choice N f ≡ true)
  choice-allowed f = (
    λ c. allowed-i N f (λ i l t. c.listed i (omega arith) l t) (λ i j li lj ti tj s. pair c i j li lj ti tj s),
    λ a. record {
      listed = λ i _. allowed-domain N f a i;
      allowed = λ i j _ l m t u s. allowed-pair N f a i j (omega arith) m t u s;
    },
  )
    where
      pair : ChoiceFrom N N.domain 0 f → (i j : ℕ) → i < N.n → j < N.n → free N i ≡ true → free N j ≡ true → N.stated i j ≡ true
          → N.allows i j (f i) (f j) ≡ true
      pair c i j li lj ti tj s =
          by_cases (ltb i j)
          (λ t. c.allowed i j (omega arith) (ltb-true i j t) lj ti tj s)
          (λ t. by_cases (ltb j i)
          (λ r. S.allows_sym i j (f i) (f j) ∙ c.allowed j i (omega arith) (ltb-true j i r) li tj ti (S.stated_sym j i ∙ s))
          (λ r. let e : i ≡ j = omega (arith, ltb-false i j t, ltb-false j i r) in clash s (rw e (S.no_self j))))

  upto_before : (f g : ℕ → ℕ) → UptoFrom N 0 f g ↔ (precedes N g f ≡ false)
  upto_before f g = (
    λ u. not-before-i N g f (λ x l t s. u x (omega arith) l t (λ i _ m w. sym (s i m w))),
    λ h x _ l t s. not-before-e N g f h x l t (λ i m w. sym (s i (omega arith) m w)),
  )

  module _ (b : Bool) (f : ℕ → ℕ) (p : FirstFrom N N.domain 0 b f) where
    pub turns-first : b ≡ true → IsFirst N f
    turns-first t =
        record {
          is_allowed = (choice-allowed f).0 (p.found_is t);
          none_before = λ g a. (upto_before f g).0 (p.found_first t g ((choice-allowed g).1 a));
        }

    -- What is found, completed, is what the search returns,
    pub turns-found : b ≡ true → (searched N ≡ none → ⊥) × ((i : ℕ) → i < N.n → sought N i ≡ completed N f i)
    turns-found t =
        first-searched N S f (turns-first t) (λ g e s. (
          found-is-not-none (searched N) g e,
          λ i l. sought-found N g e i l ∙ completed-same N S g f s i l,
        ))

    -- and where nothing is, it says none.
    pub turns-none : b ≡ false → searched N ≡ none
    turns-none t = (searched-settles N S).none_exactly.1 (λ g. not-true→false _ (λ a. p.none_is t g ((choice-allowed g).1 a)))
