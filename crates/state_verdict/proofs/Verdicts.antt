-- The verdict: each case of its definition, and what the tests and stores on arrays are of the network.
use mathlib.Core.Bool.{true, false}
use mathlib.Core.List.{List}
use mathlib.Core.Path.{◌≡◌, refl, sym, ap, ap₂, ◌∙◌}
use Prim.Native.Nat.{ℕ, ◌<◌}
use native.Mathlib.Omega.{arith}
use lib.Dec.{ltb}
use lib.ListN.{length, get_or, replicate, length-replicate, get_or-replicate}
use borrow.Author.Tests.{lt-ltb, ne_eqb, ltb-true, ltb-false, eqb-false}
use Rattle.bounded.specs.Fold.{some, first}
use Rattle.bounded.specs.Table.{tabulate}
use Rattle.bounded.proofs.Bool.{by_cases, clash, not-true→false, implies-i, implies-e, not-i, not-e, if-true, if-false}
use Rattle.bounded.proofs.Fold.{every-i, every-e, some-i, some-e, first-widen}
use Rattle.bounded.proofs.Table.{length-tabulate, get_d_tabulate, is-table}
use Rattle.words.specs.Word.{width, has}
use Rattle.words.proofs.Laws.{has-zero, nonempty}
use Rattle.network.specs.Network.{free, partner}
use Rattle.network.specs.Completion as network
use Rattle.network.specs.Completion.{NONE, BUILT, OPEN, completed, lowest, exhausted, decided, verdict, lowest_solution, shown}
use Rattle.network.proofs.Sound.{free-or-led, leader-n, leader-is-free}
use Rattle.network.proofs.Completion.{completed-keeps, completed-led, none-verdict, built-verdict, open-verdict, verdict-built, exhausted-e, not-exhausted, shown-built, shown-past, shown-zero, lowest-domain}
use Rattle.pairs.specs.Pairs.{variables}
use Rattle.head.specs.Held.{HeadShaped, held}
use Rattle.head.proofs.Held.{held-sound, held-n, held-size}
use Rattle.state.specs.View.{head_in, view, sound_state}
use Rattle.answers.specs.Answers.{rules}
use Rattle.state.specs.Solutions.{values_of, verdict_of}
use Rattle.solutions.specs.Choices.{Led, Completed, domain_open, domains_open, lowest_of, free_apart}
use Rattle.state.specs.declared.state.State.{State}
use Rattle.state.proofs.Solutions.{verdict-of}
use Rattle.state_solutions.proofs.Solutions.{choice-led, value-is-completed}

module _ (s : State) (h : HeadShaped (head_in s)) (t : sound_state s ≡ true) where
  told : (v : network.Verdict) (build : List ℕ) → verdict (view s) ≡ v → build ≡ tabulate variables (shown (view s)) → rules v build ≡ verdict_of s
  told v build e f = ap₂ rules (sym e) f ∙ sym (verdict-of s t)

  -- A domain that is not empty has a value below its size.
  open-some : (i : ℕ) → (get_or s.domains i 0 ≡ 0 → ⊥) → some ((view s).size i) ((view s).domain i) ≡ true
  unfolding held
  open-some i d =
      some-e width _ (nonempty width _ (h.domains_array.element_lt i) d)
      (λ v _ m. some-i _ _ v ((held-sound _ _ h t).domain_in i v m) m)

  -- "some live list is empty"
  left : domains_open s.n s.leaders s.domains ≡ true → exhausted (view s) ≡ false
  unfolding domains_open domain_open free held
  left o = not-true→false _ (λ x. exhausted-e (view s) x
      (λ i l f e. clash (open-some i (eqb-false _ _ (not-e _ (implies-e _ _ (every-e s.n _ o i l) f)))) e))

  none : domains_open s.n s.leaders s.domains ≡ false → exhausted (view s) ≡ true
  unfolding domains_open domain_open free held
  none o =
      by_cases (exhausted (view s))
      (λ x. x)
      (λ x. clash (every-i s.n _ (λ i l. implies-i _ _ (λ f. not-i _ (ne_eqb (get_or s.domains i 0) 0
      (λ e. some-e _ _ (not-exhausted (view s) x i l f) (λ v _ m. clash m (ap (λ (d : ℕ). has d v) e ∙ has-zero v))))))) o)

  -- No solution is shown with NONE or OPEN.
  zeros : (verdict (view s) ≡ BUILT → ⊥) → replicate variables 0 ≡ tabulate variables (shown (view s))
  zeros v = is-table variables _ (replicate variables 0) 0 (length-replicate {A = ℕ} variables 0) (λ i l. get_or-replicate variables i 0 0 l ∙ sym (shown-zero (view s) i v))

  pub told_none : domains_open s.n s.leaders s.domains ≡ false → rules NONE (replicate variables 0) ≡ verdict_of s
  told_none o = told NONE _ (none-verdict (view s) (none o)) (zeros (λ w. clash (none o) (verdict-built (view s) w).0))

  -- "no two live options are stated together"
  apart : free_apart s.n s.leaders s.stated ≡ decided (view s)
  unfolding free_apart decided free held
  apart = refl

  pub told-open : domains_open s.n s.leaders s.domains ≡ true → free_apart s.n s.leaders s.stated ≡ false
      → rules OPEN (replicate variables 0) ≡ verdict_of s
  told-open o d =
      let open-pair = sym apart ∙ d in
      told OPEN _ (open-verdict (view s) (left o) open-pair) (zeros (λ w. clash (verdict-built (view s) w).1 open-pair))

  module _ (o : domains_open s.n s.leaders s.domains ≡ true) where
    -- The lowest values are a choice in the domains of free variables.
    lowest-is : (i : ℕ) → i < s.n → free (view s) i ≡ true → get_or (tabulate variables (lowest_of width s.n s.domains)) i 0 ≡ lowest (view s) i
    unfolding lowest_of lowest held
    lowest-is i l f =
        get_d_tabulate variables _ i 0 (omega (arith, held-n _ s.rows t))
        ∙ if-true _ _ _ (lt-ltb i s.n l)
        ∙ first-widen (get_or s.sizes i 0) width _ (let most = held-size _ s.rows h t i in omega arith) (not-exhausted (view s) (left o) i l f)

    lowest-choice : (i : ℕ) → i < s.n → free (view s) i ≡ true
        → (view s).domain i (get_or (tabulate variables (lowest_of width s.n s.domains)) i 0) ≡ true
    unfolding held
    lowest-choice i l f = rw (lowest-is i l f) (lowest-domain (view s) (left o) i l f)

    pub lowest-led : Led width s.n s.leaders (tabulate variables (lowest_of width s.n s.domains))
    lowest-led = choice-led s h t _ lowest-choice (omega (arith, held-n _ s.rows t, length-tabulate variables (lowest_of width s.n s.domains)))

    -- Completed, they are the lowest solution.
    build-is : (i : ℕ) → i < s.n → completed (view s) (values_of (tabulate variables (lowest_of width s.n s.domains))) i ≡ lowest_solution (view s) i
    unfolding lowest_solution values_of held
    build-is i m =
        free-or-led (view s) i
        (λ f. completed-keeps (view s) _ i f ∙ lowest-is i m f ∙ sym (completed-keeps (view s) (lowest (view s)) i f))
        (λ l e. let S = held-sound _ _ h t in
        completed-led (view s) _ i l e
        ∙ ap (λ (a : ℕ). first ((view s).size i) (partner (view s) l i a)) (lowest-is l (leader-n (view s) S i l e) (leader-is-free (view s) S i l e))
        ∙ sym (completed-led (view s) (lowest (view s)) i l e))

    pub told-built : (build : List ℕ) → length build ≡ variables → free_apart s.n s.leaders s.stated ≡ true
        → Completed width s.n s.domains s.leaders s.rows (tabulate variables (lowest_of width s.n s.domains)) build
        → rules BUILT build ≡ verdict_of s
    unfolding lowest_of held
    told-built build e d C =
        let v = built-verdict (view s) (left o) (sym apart ∙ d) in
        told BUILT build v
        (is-table variables _ build 0 e
        (λ i l. by_cases (ltb i s.n)
        (λ b. let m = ltb-true i s.n b in
        C.value_completed i m ∙ value-is-completed s h t _ lowest-choice i m ∙ build-is i m ∙ sym (shown-built (view s) v i m))
        (λ b. let m = ltb-false i s.n b in
        C.value_past i m ∙ get_d_tabulate variables _ i 0 l ∙ if-false _ _ _ b ∙ sym (shown-past (view s) i m))))
