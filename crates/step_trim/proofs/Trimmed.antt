-- The trimmed domains of a head are those of the network with its followers trimmed.
use mathlib.Core.List.{List}
use mathlib.Core.Path.{◌≡◌, refl, sym, ap, ap₂, subst, ◌∙◌}
use Prim.Native.Nat.{ℕ, suc, pred, ◌-◌, ◌≤◌, ◌<◌}
use native.Mathlib.Omega.{arith}
use lib.ListN.{get_or}
use borrow.Author.Tests.{eq-eqb, ne_eqb}
use Rattle.bounded.specs.Bool.{and}
use Rattle.bounded.specs.Fold.{some}
use Rattle.bounded.specs.Table.{tabulate}
use Rattle.bounded.proofs.Bool.{bool-ext, and_l, if-true, if-false}
use Rattle.bounded.proofs.Fold.{some-i, some-e}
use Rattle.bounded.proofs.Table.{is-table, tabulate-cong}
use Rattle.words.specs.Word.{width, word}
use Rattle.words.proofs.Laws.{is_word, word-cong}
use Rattle.network.specs.Network.{Network, free, partner}
use Rattle.network.specs.Sound.{Sound, Bounded}
use Rattle.network.specs.Step.{trimmed, relisted, followers_trimmed, Trimmable}
use Rattle.network.proofs.Sound.{free-e, led-not-free, led-pred, free-or-led, Sound→Bounded}
use Rattle.network.proofs.Trim.{trim-free, trim-led}
use Rattle.pairs.specs.Pairs.{variables, rows_of}
use Rattle.pairs.proofs.Laws.{Pairwise}
use Rattle.head.specs.declared.Head.{Head}
use Rattle.head.specs.Held.{values_at_most, held, head_of}
use Rattle.head.proofs.Held.{HeadShaped, held-bounded, held_of, head_shaped, sound-pairwise}
use Rattle.step_compose.specs.Compose.{supported_at}
use Rattle.step_trim.specs.Trimmed.{trimmed_at, Led}

-- ---- one variable, as the code finds it: `leader` is read off the array

module _ (leaders : List ℕ) (x : ℕ) {leader : ℕ} (e : leader ≡ get_or leaders x 0) where
  pub led-in : Led leaders → (leader ≡ 0 → ⊥) → (leader - 1 < variables) × (x ≡ leader - 1 → ⊥)
  unfolding Led
  led-in L d = L x (leader - 1) (omega arith)

  module _ (w : ℕ) (rows domains : List ℕ) where
    pub own-list : leader ≡ 0 → get_or domains x 0 ≡ trimmed_at w rows domains leaders x
    unfolding trimmed_at
    own-list z = sym (if-true _ _ _ (eq-eqb (get_or leaders x 0) 0 (sym e ∙ z)))

    pub led-list : {r : ℕ} → (leader ≡ 0 → ⊥) → r ≡ supported_at w rows x (leader - 1) (get_or domains x 0) (get_or domains (leader - 1) 0)
        → r ≡ trimmed_at w rows domains leaders x
    unfolding trimmed_at
    led-list d q =
        let p : leader - 1 ≡ pred (get_or leaders x 0) = omega arith in
        q
        ∙ ap (λ (l : ℕ). supported_at w rows x l (get_or domains x 0) (get_or domains l 0)) p
        ∙ sym (if-false _ _ _ (ne_eqb (get_or leaders x 0) 0 (λ z. d (e ∙ z))))

-- ---- all of a head

-- What leads in a network that can be trimmed is a variable of it. No leader follows, so none leads itself.
pub trimmable-led : (M : Network) → Trimmable M → M.n ≤ variables → (leaders : List ℕ) → ((x : ℕ) → get_or leaders x 0 ≡ M.leader x) → Led leaders
unfolding Led
trimmable-led M T m leaders same x l e =
    let q : M.leader x ≡ suc l = sym (same x) ∙ e in
    let f = T.leaders_free x l q in (
      let b = f.0 in omega arith,
      λ d. let z : ◌≡◌ {A = ℕ} 0 (suc l) = sym f.1 ∙ ap M.leader (sym d) ∙ q in omega arith,
    )

module _ (h : Head) (rows : List ℕ) (S : HeadShaped h) (T : Trimmable (held h rows)) where
  pub leaders-led : h.n ≤ variables → Led h.leaders
  unfolding held
  leaders-led m = trimmable-led (held h rows) T m h.leaders (λ x. refl)

  bounded : Bounded variables width (held h rows)
  bounded = held-bounded h rows S

  -- Rule 1 on words and on the network.
  supported-is : (x l a : ℕ)
      → and ((held h rows).domain x a) (some width (λ (b : ℕ). and ((held h rows).domain l b) ((held h rows).allows x l a b)))
      ≡ trimmed (held h rows) x l a
  unfolding trimmed partner
  supported-is x l a =
      ap (and ((held h rows).domain x a))
      (bool-ext _ _
      (λ p. some-e width _ p (λ b _ q. some-i ((held h rows).size l) _ b (T.values_in l b (and_l _ _ q)) q))
      (λ p. some-e ((held h rows).size l) _ p (λ b _ q. some-i width _ b (bounded.domain_bound l b (and_l _ _ q)).1 q)))

  pub trimmed-at : (x : ℕ) → trimmed_at width rows h.domains h.leaders x ≡ word width ((followers_trimmed (held h rows)).domain x)
  unfolding trimmed_at supported_at held free
  trimmed-at x =
      free-or-led (held h rows) x
      (λ t. if-true _ _ _ t
      ∙ is_word width _ _ (S.domains_array.element_lt x) (λ a _. sym (trim-free (held h rows) x a t)))
      (λ l e. if-false _ _ _ (led-not-free (held h rows) x l e)
      ∙ (ap (λ (y : ℕ). supported_at width rows x y (get_or h.domains x 0) (get_or h.domains y 0)) (led-pred (held h rows) x l e)
      ∙ word-cong width _ _ (λ a _. supported-is x l a ∙ sym (trim-led (held h rows) x l a e))))

  -- So the head with the trimmed domains is that of the trimmed network; the rows are as they were.
  pub head-trimmed :
      record { n = h.n; sizes = h.sizes; domains = tabulate variables (trimmed_at width rows h.domains h.leaders); leaders = h.leaders; stated = h.stated }
      ≡ head_of (followers_trimmed (held h rows))
  unfolding head_of followers_trimmed relisted held
  head-trimmed = λ z.
      record {
        n = h.n;
        sizes = is-table variables _ h.sizes 0 S.sizes_array.array_length (λ x lx. refl) z;
        domains = tabulate-cong variables _ _ (λ x _. trimmed-at x) z;
        leaders = is-table variables _ h.leaders 0 S.leaders_array.array_length (λ x lx. refl) z;
        stated = is-table variables _ h.stated 0 S.stated_array.array_length (λ x lx. is_word width _ _ (S.stated_array.element_lt x) (λ a _. refl)) z;
      }

-- ---- between two sound networks

-- M is what can be trimmed, and sound once it is; h and rows are its own.
module _ (M : Network) (B : Bounded variables width M) (T : Trimmable M) (S : Sound (followers_trimmed M)) (few : M.n ≤ variables)
    (small : (x : ℕ) → M.size x ≤ values_at_most) {h : Head} {rows : List ℕ} (e : h ≡ head_of M) (f : rows ≡ rows_of width M.allows) where
  -- The trimming does not touch what pairs allow, so that these are held once for each pair.
  pairwise : Pairwise width M.allows
  unfolding followers_trimmed relisted
  pairwise =
      sound-pairwise (followers_trimmed M) S (Sound→Bounded variables width (followers_trimmed M) S few (omega arith) (λ x. omega (arith, small x)))

  same : held h rows ≡ M
  same = ap₂ held e f ∙ held_of M B pairwise

  can : Trimmable (held h rows)
  can = subst Trimmable (sym same) T

  shaped : HeadShaped h
  shaped =
      let led : (x : ℕ) → M.leader x ≤ variables =
      λ x. free-or-led M x (λ t. omega (arith, free-e M x t)) (λ l q. omega (arith, (T.leaders_free x l q).0)) in
      subst HeadShaped (sym e) (head_shaped M (omega arith) (λ x. omega (arith, small x)) (λ x. omega (arith, led x)))

  pub network-trimmed : {domains : List ℕ} → domains ≡ tabulate variables (trimmed_at width rows h.domains h.leaders)
      → record { n = h.n; sizes = h.sizes; domains = domains; leaders = h.leaders; stated = h.stated } ≡ head_of (followers_trimmed M)
  network-trimmed q =
      ap (λ (d : List ℕ). record { n = h.n; sizes = h.sizes; domains = d; leaders = h.leaders; stated = h.stated }) q
      ∙ head-trimmed h rows shaped can
      ∙ ap (λ (N : Network). head_of (followers_trimmed N)) same
