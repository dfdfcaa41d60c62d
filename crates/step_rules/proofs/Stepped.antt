-- The head and rows that the rules leave of a sound state are those of the network after the step.
use mathlib.Core.Bool.{Bool, true, false}
use mathlib.Core.List.{List}
use mathlib.Core.Path.{◌≡◌, refl, sym, ap, ap₂, fun_ext, subst, ◌∙◌}
use Prim.Native.Nat.{ℕ, ◌^◌, ◌≤◌, ◌<◌}
use native.Mathlib.Omega.{arith}
use lib.ListN.{get_or, set, length-set}
use lib.Seq.{get_or-set_same, get_or-set_other}
use Rattle.bounded.specs.Bool.{and, implies}
use Rattle.bounded.specs.Table.{tabulate}
use Rattle.bounded.proofs.Array.{get_d-table}
use Rattle.bounded.proofs.Bool.{bool-ext, not-true→false, and_i, and_l, and_r}
use Rattle.bounded.proofs.Fold.{is-or-not, some-i, some-e}
use Rattle.bounded.proofs.Table.{is-table}
use Rattle.words.specs.Word.{width, has, word}
use Rattle.words.proofs.Laws.{has_word, has_all, has-below, is_word, within, word_lt}
use Rattle.network.specs.Sound.{Sound, Bounded}
use Rattle.network.specs.Step.{legal, trimmed, third, composed, eliminate, relisted, followers_trimmed, Trimmable, followed}
use Rattle.network.proofs.Pairs.{pair-case-sym}
use Rattle.network.proofs.Step.{Legal, legal-e, third-e, i-not-third, j-not-third, domain-i, domain-other, eliminate-moves, moved-allows-sym}
use Rattle.network.proofs.Keep.{eliminate-trimmable, eliminate-bounded, followed-sound}
use Rattle.network.proofs.Step.{trimmed-domain, trimmed-e, trimmed-i, joined-e, joined-i}
use Rattle.pairs.specs.Pairs.{variables, allows_of, rows_of}
use Rattle.pairs.proofs.Laws.{allows-alike, rows-rule}
use Rattle.head.specs.declared.Head.{Head}
use Rattle.head.specs.Held.{values_at_most, RowsShaped, Represents, held, head_of, sound_in}
use Rattle.head.proofs.Held.{HeadShaped, held-bounded, held-sound, held-n, held-size}
use Rattle.step_compose.specs.Compose.{supported_at, composed_at}
use Rattle.step_parts.specs.StepParts.{leader_after, third_of, stated_after, made_at, MovedRows}
use Rattle.step_trim.specs.Trimmed.{Led, trimmed_at}
use Rattle.step_trim.proofs.Trimmed.{trimmable-led, leaders-led, network-trimmed}

module _ {h : Head} (rows : List ℕ) (S : HeadShaped h) (t : sound_in h rows ≡ true) (i j : ℕ) (l : legal (held h rows) i j ≡ true) where
  sound : Sound (held h rows)
  sound = held-sound h rows S t

  bounded : Bounded variables width (held h rows)
  bounded = held-bounded h rows S

  may : Legal (held h rows) i j
  may = legal-e (held h rows) i j l

  below : (x : ℕ) → x < (held h rows).n → x < variables
  unfolding held
  below x b = omega (arith, held-n h rows t)

  -- The two variables.
  pub step-asks : (i < variables) × (j < variables) × (i ≡ j → ⊥)
  step-asks = (below i may.i_in, below j may.j_in, may.distinct)

  -- What rules 1 to 3 leave is not sound; it fits the arrays, and its followers can be trimmed.
  few : (held h rows).n ≤ variables
  unfolding held
  few = held-n h rows t

  small : (x : ℕ) → (held h rows).size x ≤ values_at_most
  unfolding held
  small = held-size h rows S t

  fits : Bounded variables width (eliminate (held h rows) i j)
  fits = eliminate-bounded (held h rows) sound i j may variables width few (omega (arith, few)) small

  can : Trimmable (eliminate (held h rows) i j)
  can = eliminate-trimmable (held h rows) sound i j may

  sound-trimmed : Sound (followers_trimmed (eliminate (held h rows) i j))
  unfolding followed
  sound-trimmed = followed-sound (held h rows) sound i j l

  -- Who leads before the step and after it is a variable that the arrays have.
  pub led-before : Led h.leaders
  unfolding held
  led-before = leaders-led h rows S (record { values_in = sound.domain_in; pairs_alike = sound.allows_sym; leaders_free = sound.leader_free }) few

  pub led-after : {led : List ℕ} → led ≡ tabulate variables (λ (x : ℕ). leader_after i j x (get_or h.leaders x 0)) → Led led
  unfolding eliminate leader_after held
  led-after {led} e =
      trimmable-led (eliminate (held h rows) i j) can few led
      (λ x. ap (λ (l : List ℕ). get_or l x 0) e ∙ get_d-table variables _ x (fits.leader_bound x))

  -- Rule 1.
  module _ {ti : ℕ} (is-ti : ti ≡ supported_at width rows i j (get_or h.domains i 0) (get_or h.domains j 0)) where
    has-trimmed : (a : ℕ) → a < width → has ti a ≡ trimmed (held h rows) i j a
    unfolding supported_at held
    has-trimmed a la =
        ap (λ (n : ℕ). has n a) is-ti ∙ has_word width _ a la
        ∙ bool-ext _ _
        (λ p. some-e width _ (and_r _ _ p) (λ b lb q. trimmed-i (held h rows) i j sound a b (and_l _ _ p) (and_l _ _ q) (and_r _ _ q)))
        (λ p. trimmed-e (held h rows) i j a p (λ b db ab. and_i _ _ (trimmed-domain (held h rows) i j a p)
        (some-i width _ b (bounded.domain_bound j b db).1 (and_i _ _ db ab))))

    trimmed-lt : ti < 2 ^ width
    unfolding supported_at
    trimmed-lt = rw is-ti (word_lt width _)

    domains-after : set h.domains i ti ≡ (head_of (eliminate (held h rows) i j)).domains
    unfolding head_of
    domains-after =
        is-table variables _ (set h.domains i ti) 0 (length-set h.domains i ti ∙ S.domains_array.array_length)
        (λ x _. is-or-not i (λ (y : ℕ). get_or (set h.domains i ti) y 0 ≡ word width ((eliminate (held h rows) i j).domain y))
        (get_or-set_same h.domains i ti 0 (omega (arith, S.domains_array.array_length, step-asks.0))
        ∙ is_word width ti _ trimmed-lt (λ a la. has-trimmed a la ∙ sym (domain-i (held h rows) i j a)))
        (λ y d. get_or-set_other h.domains i y ti 0 d ∙ kept y d)
        x)
      where
        kept : (y : ℕ) → (y ≡ i → ⊥) → get_or h.domains y 0 ≡ word width ((eliminate (held h rows) i j).domain y)
        kept y d = is_word width _ _ (S.domains_array.element_lt y) (λ a la. unfold held in sym (domain-other (held h rows) i j y a d))

    -- Rule 2 on rows, for a third variable.
    made-composed : (k a c : ℕ) → a < width → c < width
        → made_at width rows h.domains (get_or h.stated i 0) i j ti k a c
        ≡ composed (held h rows) i j k a c (implies ((held h rows).stated i k) ((held h rows).allows i k a c))
    unfolding made_at composed_at composed held
    made-composed k a c la lc =
        ap₂ and (ap (λ (b : Bool). and b ((held h rows).domain k c)) (has-trimmed a la))
        (ap (λ (b : Bool). and b (implies ((held h rows).stated i k) ((held h rows).allows i k a c)))
        (bool-ext _ _
        (λ p. some-e width _ p (λ b lb q. joined-i (held h rows) i j sound k a b c (and_l _ _ q) (and_l _ _ (and_r _ _ q)) (and_r _ _ (and_r _ _ q))))
        (λ p. joined-e (held h rows) i j k a c p (λ b db ab bc.
        some-i width _ b (bounded.domain_bound j b db).1 (and_i _ _ db (and_i _ _ ab bc))))))

  -- The third variables.
  module _ {thirds : ℕ} (are : thirds ≡ word width (third_of i j (has (get_or h.stated j 0)))) where
    thirds-are : has thirds ≡ third (held h rows) i j
    unfolding third third_of held
    thirds-are = fun_ext λ k.
        ap (λ (n : ℕ). has n k) are
        ∙ has_all width _ k (λ past. not-true→false _ (λ u. let b : ⊥ = omega (arith, has-below width _ k (and_l _ _ u) (S.stated_array.element_lt j)) in b))

    third-is : (k : ℕ) → has thirds k ≡ third (held h rows) i j k
    third-is k = ap (λ (T : ℕ → Bool). T k) thirds-are

    -- Neither i nor j is one of them, and each is a variable.
    pub thirds-apart : (has thirds i ≡ false) × (has thirds j ≡ false) × (thirds < 2 ^ variables)
    thirds-apart = (
      third-is i ∙ i-not-third (held h rows) i j,
      third-is j ∙ j-not-third (held h rows) i j,
      within width thirds variables (rw are (word_lt width _)) (λ v k _. not-true→false _ (λ u.
          let s = third-e (held h rows) i j v (sym (third-is v) ∙ u) in
          let b : ⊥ = omega (arith, below v (sound.stated_in j v s.0).1) in b)),
    )

    -- Rule 2 on stated pairs.
    stated-is : tabulate variables (λ (x : ℕ). word width (stated_after i j (has thirds) x (has (get_or h.stated x 0)))) ≡ (head_of (eliminate (held h rows) i j)).stated
    unfolding head_of eliminate stated_after held
    stated-is = ap (λ (T : ℕ → Bool). tabulate variables (λ (x : ℕ). word width (stated_after i j T x (has (get_or h.stated x 0))))) thirds-are

    -- All three rules.
    module _ {ti : ℕ} (is-ti : ti ≡ supported_at width rows i j (get_or h.domains i 0) (get_or h.domains j 0))
        {after led linked : List ℕ} (R : RowsShaped rows)
        (m : MovedRows width rows after i j (has thirds) (made_at width rows h.domains (get_or h.stated i 0) i j ti))
        (leads : led ≡ tabulate variables (λ (x : ℕ). leader_after i j x (get_or h.leaders x 0)))
        (links : linked ≡ tabulate variables (λ (x : ℕ). word width (stated_after i j (has thirds) x (has (get_or h.stated x 0))))) where
      moved : MovedRows width rows after i j (third (held h rows) i j) (made_at width rows h.domains (get_or h.stated i 0) i j ti)
      moved = subst (λ (T : ℕ → Bool). MovedRows width rows after i j T (made_at width rows h.domains (get_or h.stated i 0) i j ti)) thirds-are m

      allowed : (x y a b : ℕ) → a < width → b < width → allows_of width after x y a b ≡ (eliminate (held h rows) i j).allows x y a b
      allowed =
          let pairs = eliminate-moves (held h rows) i j may.distinct in
          pair-case-sym i j (third (held h rows) i j)
          (λ (x y : ℕ). (a b : ℕ) → a < width → b < width → allows_of width after x y a b ≡ (eliminate (held h rows) i j).allows x y a b)
          (λ x y e a b la lb. allows-alike width after y x a b ∙ e b a lb la
          ∙ moved-allows-sym (held h rows) sound i j _ (eliminate (held h rows) i j) pairs x y b a)
          (λ k u a b la lb. moved.made_ik k a b u la lb ∙ made-composed is-ti k a b la lb ∙ sym ((pairs.allows_moved a b).at_ik k u))
          (λ k u a b la lb. moved.gone_jk k a b u la lb ∙ sym ((pairs.allows_moved a b).at_jk k u))
          (λ x y r a b la lb. moved.kept x y a b r ∙ unfold held in sym ((pairs.allows_moved a b).elsewhere x y r))

      head-after : record { n = h.n; sizes = h.sizes; domains = set h.domains i ti; leaders = led; stated = linked } ≡ head_of (eliminate (held h rows) i j)
      unfolding head_of eliminate held leader_after
      head-after = λ z.
          record {
            n = h.n;
            sizes = is-table variables _ h.sizes 0 S.sizes_array.array_length (λ x lx. refl) z;
            domains = domains-after is-ti z;
            leaders = leads z;
            stated = (links ∙ stated-is) z;
          }

      rows-after : after ≡ rows_of width (eliminate (held h rows) i j).allows
      rows-after = rows-rule width _ after (m.same_length ∙ R.array_length) (m.words R.element_lt) (λ x y a b _ _ la lb. allowed x y a b la lb)

      -- The followers are trimmed by the new leaders and the new list of i.
      trimmed-after : {short : List ℕ} → short ≡ tabulate variables (trimmed_at width after (set h.domains i ti) led)
          → record { n = h.n; sizes = h.sizes; domains = short; leaders = led; stated = linked } ≡ head_of (followed (held h rows) i j)
      unfolding eliminate followed
      trimmed-after = network-trimmed (eliminate (held h rows) i j) fits can sound-trimmed few small head-after rows-after

      pub stepped : {short : List ℕ} → short ≡ tabulate variables (trimmed_at width after (set h.domains i ti) led)
          → Represents (followed (held h rows) i j) (record { n = h.n; sizes = h.sizes; domains = short; leaders = led; stated = linked }) after
      stepped q = record { head_is = trimmed-after q; rows_are = rows-after ∙ same_allows }
        where
          same_allows : rows_of width (eliminate (held h rows) i j).allows ≡ rows_of width (followed (held h rows) i j).allows
          same_allows = unfold followed followers_trimmed relisted in refl
