-- The search of a sound state, from its start to what it returns.
use mathlib.Core.Bool.{Bool, true, false}
use mathlib.Core.List.{List}
use mathlib.Core.Path.{◌≡◌, refl, sym, ap, ◌∙◌}
use Prim.Native.Nat.{ℕ, ◌≤◌, ◌<◌}
use native.Mathlib.Omega.{arith}
use lib.Dec.{ltb}
use lib.ListN.{length, get_or, replicate, get_or-replicate}
use borrow.Author.Tests.{le-ltb, ltb-true, ltb-false, le-leb}
use Rattle.bounded.specs.Bool.{and}
use Rattle.bounded.proofs.Bool.{by_cases, and-fails, and-holds, and-false}
use Rattle.bounded.specs.Table.{tabulate}
use Rattle.bounded.proofs.Table.{is-table}
use Rattle.words.specs.Word.{width, has}
use Rattle.words.proofs.Laws.{has_word, has-word-past, has-below, word_lt}
use Rattle.network.specs.Network.{Network, free}
use Rattle.network.specs.Search.{none, searched, sought, choice_product}
use Rattle.network.specs.Turns.{FirstFrom}
use Rattle.network.proofs.Search.{sought-past, product-none}
use Rattle.network.proofs.Turns.{turns-found, turns-none}
use Rattle.pairs.specs.Pairs.{variables}
use Rattle.head.specs.declared.Head.{Head}
use Rattle.head.specs.Held.{HeadShaped, held, sound_in}
use Rattle.head.proofs.Held.{held-sound, held-n}
use Rattle.solutions.specs.Choices.{free_word, Led, Completed}
use Rattle.search_narrow.specs.Narrow.{listed}
use Rattle.search.specs.Turns.{to_choose, Left, Chooses}
use Rattle.search.proofs.Completing.{choice-led, value-is-completed}

-- At the start all free variables are left.
pub start-below : (n left : ℕ) (leaders : List ℕ) → left ≡ free_word n leaders → (j : ℕ) → has left j ≡ true → j < n
unfolding free_word
start-below n left leaders e j t = has-below n left j t (rw e (word_lt n _))

module _ {h : Head} (rows : List ℕ) (S : HeadShaped h) (t : sound_in h rows ≡ true) where
  pub product-settled : choice_product (held h rows) ≡ 0 → searched (held h rows) ≡ none
  product-settled e = product-none (held h rows) (held-sound h rows S t) e

  module _ {left : ℕ} (e : left ≡ free_word h.n h.leaders) {found : Bool} {values : List ℕ}
      (C : (N : Network) (k : ℕ) → Left width N h.stated rows k left → Chooses N (listed h.domains) k found (replicate variables 0) values) where
    start : Left width (held h rows) h.stated rows 0 left
    unfolding held free_word to_choose free
    start =
        record {
          from_n = omega arith;
          stated_are = λ i j. refl;
          allows_are = λ i j a b. refl;
          left_are = λ i. ap (λ (x : ℕ). has x i) e
              ∙ by_cases (ltb i h.n)
              (λ b. has_word h.n _ i (ltb-true i h.n b) ∙ sym (and-holds _ _ (le-leb 0 i (omega arith)) ∙ and-holds _ _ b))
              (λ b. has-word-past h.n _ i (ltb-false i h.n b) ∙ sym (ap (and _) (and-fails _ _ b) ∙ and-false _));
        }

    -- The first choice from the first variable on, within the domains as they are.
    settled : FirstFrom (held h rows) (held h rows).domain 0 found (λ (i : ℕ). get_or values i 0)
    unfolding held listed
    settled = (C (held h rows) 0 start).first_from

    pub chosen_none : found ≡ false → searched (held h rows) ≡ none
    chosen_none q = turns-none (held h rows) (held-sound h rows S t) _ _ settled q

    module _ (q : found ≡ true) where
      choice : (i : ℕ) → i < h.n → free (held h rows) i ≡ true → has (get_or h.domains i 0) (get_or values i 0) ≡ true
      unfolding held
      choice i l f = (settled.found_is q).listed i (omega arith) l f

      pub chosen-led : length values ≡ variables → Led width h.n h.leaders values
      chosen-led m = choice-led h rows S t values choice (omega (arith, held-n h rows t))

      -- Past n nothing is chosen and nothing completed.
      past : (i : ℕ) → i < variables → h.n ≤ i → get_or values i 0 ≡ 0
      unfolding held to_choose
      past i b l =
          (C (held h rows) 0 start).others i (ap (and _) (and-fails _ _ (le-ltb i h.n l)) ∙ and-false _)
          ∙ get_or-replicate variables i 0 0 b

      pub chosen-found : {solution : List ℕ} → length solution ≡ variables → Completed width h.n h.domains h.leaders rows values solution
          → (searched (held h rows) ≡ none → ⊥) × (solution ≡ tabulate variables (sought (held h rows)))
      unfolding held
      chosen-found {solution} m D =
          let N = held h rows in
          let F = turns-found N (held-sound h rows S t) _ _ settled q in (
            F.0,
            is-table variables _ solution 0 m (λ i b. by_cases (ltb i h.n)
                (λ u. let l = ltb-true i h.n u in
                D.value_completed i l ∙ value-is-completed h rows S t values choice i ∙ sym (F.1 i l))
                (λ u. let l = ltb-false i h.n u in D.value_past i l ∙ past i b l ∙ sym (sought-past N i l))),
          )
