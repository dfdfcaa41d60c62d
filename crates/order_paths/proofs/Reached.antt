-- Edges, paths and who governs whom as words: each round is one of `via`, and past n there is nothing.
use mathlib.Core.Bool.{Bool, true, false}
use mathlib.Core.List.{List}
use mathlib.Core.Path.{◌≡◌, refl, sym, ap, ap₂, fun_ext, ◌∙◌}
use Prim.Native.Nat.{ℕ, ◌+◌, ◌≤◌, ◌<◌}
use native.Mathlib.Numerals.{add-one}
use native.Mathlib.Omega.{arith}
use lib.Dec.{eqb, ltb}
use lib.ListN.{get_or}
use borrow.Author.Tests.{eqb-true, eq-eqb, ltb-true, ltb-false}
use Rattle.bounded.specs.Bool.{and, or, not, if}
use Rattle.bounded.specs.Table.{tabulate}
use Rattle.bounded.proofs.Bool.{by_cases, bool-ext, not-true→false, and_l, and-holds, and-fails}
use Rattle.bounded.proofs.Table.{get_d_tabulate, tabulate-cong}
use Rattle.words.specs.Word.{width, has, word}
use Rattle.words.proofs.Laws.{has_word, has-ruled, has-word-past, word-cong}
use Rattle.network.specs.Network.{Network}
use Rattle.network.specs.Sound.{Sound}
use Rattle.network.specs.Reach.{Way, here, along, via, leads_to, reach}
use Rattle.network.specs.Order.{governs}
use Rattle.network.proofs.Reach.{round-words, reach-path}
use Rattle.network.proofs.Sound.{stated-distinct}
use Rattle.pairs.specs.Pairs.{variables, partners_within}
use Rattle.head.specs.declared.Head.{Head}
use Rattle.head.specs.Held.{HeadShaped, held, sound_in}
use Rattle.head.proofs.Held.{held-sound, held-n, has-sets}
use Rattle.head.proofs.Functional.{functional-counted}
use Rattle.order_paths.specs.Paths.{edges_of, paths_of, over_of}

-- ---- edges

-- What the words of i say: with which variables it is stated by a table functional from i.
abbrev pub led_by : List ℕ → List ℕ → List ℕ → ℕ → ℕ → Bool
led_by rows domains stated i j = and (has (get_or stated i 0) j) (partners_within width rows i j (get_or domains i 0) (get_or domains j 0) 0 1)

module _ {h : Head} (rows : List ℕ) (S : HeadShaped h) (t : sound_in h rows ≡ true) where
  -- Stated variables are below n, and others.
  pub stated-others : (i j : ℕ) → has (get_or h.stated i 0) j ≡ true → (j < variables) × (i ≡ j → ⊥)
  unfolding held
  stated-others i j s =
      let N = held-sound h rows S t in
      (omega (arith, (N.stated_in i j s).1, held-n h rows t), stated-distinct (held h rows) N i j s)

  pub edges_are : {l : List ℕ} → l ≡ tabulate variables (λ (i : ℕ). word width (led_by rows h.domains h.stated i)) → l ≡ edges_of (held h rows)
  unfolding edges_of leads_to held
  edges_are e =
      e ∙ tabulate-cong variables _ _ λ i l. word-cong width _ _ λ j m. ap (and (has (get_or h.stated i 0) j)) (functional-counted rows S t i j)

-- ---- rounds

-- The rows of a round, as words.
abbrev pub rounds : (ℕ → ℕ → Bool) → ℕ → List ℕ
rounds E m = tabulate variables (λ (i : ℕ). word width (via E m i))

-- A list of words as edges.
abbrev pub edge_in : List ℕ → ℕ → ℕ → Bool
edge_in l x y = has (get_or l x 0) y

-- "j is i, or there is" an edge.
pub own_row : (edges : List ℕ) (i : ℕ) {one r : ℕ} → one ≡ word width (λ (u : ℕ). eqb u i)
    → r ≡ word width (λ (u : ℕ). or (has one u) (has (get_or edges i 0) u)) → r ≡ word width (via (edge_in edges) 0 i)
unfolding via
own_row edges i oe re =
    re ∙ word-cong width _ _ λ u l.
    ap (λ (b : Bool). or b (edge_in edges i u))
    (has-ruled width _ oe u l ∙ bool-ext _ _ (λ t. eq-eqb i u (sym (eqb-true u i t))) (λ t. eq-eqb u i (sym (eqb-true i u t))))

-- A round joins row m to the rows that have m: `round-words`.
pub round-more : (E : ℕ → ℕ → Bool) (m : ℕ) {before after : List ℕ} → m < variables → before ≡ rounds E m
    → after
    ≡ tabulate variables (λ (i : ℕ).
    if (has (get_or before i 0) m) (word width (λ (j : ℕ). or (has (get_or before i 0) j) (has (get_or before m 0) j))) (get_or before i 0))
    → after ≡ rounds E (m + 1)
round-more E m {before} {after} l be ae =
    let at : (i : ℕ) → i < variables → get_or before i 0 ≡ word width (via E m i) =
    λ i k. ap (λ (r : List ℕ). get_or r i 0) be ∙ get_d_tabulate variables _ i 0 k in
    rw (add-one m) (ae ∙ tabulate-cong variables _ _ λ i k. rw (at i k, at m l) (sym (round-words E m width i (omega arith))))

-- ---- paths

-- The bits of a column past the array are not set.
pub column-over : (paths : List ℕ) (i own : ℕ) {column r : ℕ} → column ≡ word variables (λ (j : ℕ). has (get_or paths j 0) i)
    → r ≡ word width (λ (u : ℕ). and (has column u) (not (has own u)))
    → r ≡ word width (λ (j : ℕ). and (and (ltb j variables) (has (get_or paths j 0) i)) (not (has own j)))
column-over paths i own ce re =
    re ∙ word-cong width _ _ λ u l. ap (λ (b : Bool). and b (not (has own u)))
    (by_cases (ltb u variables)
    (λ t. has-ruled variables _ ce u (ltb-true u variables t) ∙ sym (and-holds _ _ t))
    (λ t. rw ce (has-word-past variables _ u (ltb-false u variables t)) ∙ sym (and-fails _ _ t)))

module _ (N : Network) (S : Sound N) (few : N.n ≤ variables) where
  edge-within : (i j : ℕ) → leads_to N i j ≡ true → (i < variables) × (j < width)
  unfolding leads_to
  edge-within i j e = let b = S.stated_in i j (and_l _ _ e) in (omega arith, omega arith)

  edges-alike : edge_in (edges_of N) ≡ leads_to N
  unfolding edges_of
  edges-alike = fun_ext λ i. fun_ext λ j. has-sets (leads_to N) edge-within i j

  pub paths-are : {edges l : List ℕ} → edges ≡ edges_of N → l ≡ rounds (edge_in edges) N.n → l ≡ paths_of N
  unfolding paths_of reach
  paths-are {edges} ee le = le ∙ ap (λ (E : ℕ → ℕ → Bool). rounds E N.n) (ap edge_in ee ∙ edges-alike)

  way-start : {A : Type 0} {i j : ℕ} → Way (leads_to N) i j → (i ≡ j → A) → ((x : ℕ) → leads_to N i x ≡ true → A) → A
  way-start here f g = f refl
  way-start (along {j = x} e p) f g = g x e

  -- A variable past the array reaches none of it.
  past-unreached : (j i : ℕ) → variables ≤ j → i < variables → reach N j i ≡ false
  past-unreached j i m l = not-true→false _ λ t.
      way-start ((reach-path N S j i).0 t) (λ e. omega arith) (λ x e. let b = edge-within j x e in omega arith)

  -- Who governs i, by the columns of the paths.
  pub over-are : {paths l : List ℕ} → paths ≡ paths_of N
      → l ≡ tabulate variables (λ (i : ℕ). word width (λ (j : ℕ). and (and (ltb j variables) (has (get_or paths j 0) i)) (not (has (get_or paths i 0) j))))
      → l ≡ over_of N
  unfolding over_of governs
  over-are {paths} pe le =
      le ∙ tabulate-cong variables _ _ λ i k. word-cong width _ _ λ j m.
      ap₂ (λ (a b : Bool). and a (not b))
      (by_cases (ltb j variables)
      (λ t. and-holds _ _ t ∙ at j i (ltb-true j variables t) (omega arith))
      (λ t. and-fails _ _ t ∙ sym (past-unreached j i (ltb-false j variables t) k)))
      (at i j k m)
    where
      at : (i j : ℕ) → i < variables → j < width → has (get_or paths i 0) j ≡ reach N i j
      at i j k m = ap (λ (r : List ℕ). has (get_or r i 0) j) pe ∙ (unfold paths_of in ap (λ (x : ℕ). has x j) (get_d_tabulate variables _ i 0 k) ∙ has_word width _ j m)
