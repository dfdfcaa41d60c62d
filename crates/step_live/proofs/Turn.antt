-- The lists that neighbours' lists are still to be held against are taken one by one: a turn removes only what has to go, and less is left after it.
use mathlib.Core.Bool.{true, false}
use mathlib.Core.List.{List}
use mathlib.Core.Path.{◌≡◌, refl, sym, ap, subst, ◌∙◌}
use Prim.Native.Nat.{ℕ, suc, ◌+◌, ◌*◌, ◌^◌, ◌≤◌, ◌<◌}
use native.Mathlib.Omega.{arith}
use lib.Dec.{eqb}
use lib.ListN.{get_or}
use lib.Pow.{pow_pos}
use borrow.Author.Tests.{ne_eqb, eqb-true, eqb-false}
use Rattle.bounded.specs.Array.{Array}
use Rattle.bounded.specs.Bool.{and, or, not, implies}
use Rattle.bounded.specs.Fold.{every, some, count, first}
use Rattle.bounded.specs.Table.{tabulate}
use Rattle.bounded.proofs.Array.{array-past, get_d-table, table-array}
use Rattle.bounded.proofs.Bool.{by_cases, clash, not-true→false, not-e, not-false-e, and_i, and_l, and_r, and-true, or_elim, or-false-l, or-false-r, implies-i, implies-e, implies-false, bool-ext}
use Rattle.bounded.proofs.Fold.{is-or-not, every-e, every-not, some-i, some-e, count-le, count-fewer}
use Rattle.words.specs.Word.{width, has, word}
use Rattle.words.proofs.Laws.{has_all, has-below, has-ruled, has-zero, nonempty, word_lt, same-members}
use Rattle.network.specs.Network.{Network, free}
use Rattle.network.specs.Sound.{Sound}
use Rattle.network.specs.Trimming.{Cut, Removes, value_count, live_trimmed}
use Rattle.network.proofs.Sound.{led-not-free}
use Rattle.network.proofs.Trimming.{cut-start, cut-more, values-le, values_lt}
use Rattle.pairs.specs.Pairs.{variables}
use Rattle.pairs.proofs.Runs.{lowest-in, rest-is, rest-less}
use Rattle.head.specs.declared.Head.{Head}
use Rattle.head.specs.Held.{held, head_of}
use Rattle.head.proofs.Held.{HeadShaped}
use Rattle.step_compose.specs.Compose.{supported_at}
use Rattle.step_trim.specs.Trimmed.{trimmed_at}
use Rattle.step_live.specs.Live.{lists_of, revised_at}
use Rattle.step_live.proofs.Live.{live-head}
use Rattle.step_live.proofs.Revising.{left_alone, held-against}

-- What holds between two turns: `left` are the free variables whose lists their neighbours' are still to be held against.
pub record Trimming (h : Head) (rows lists : List ℕ) (left : ℕ) : Type 0 where
  pub shaped : Array variables (2 ^ width) lists
  pub cut : Cut (held h rows) (lists_of lists)
  pub led : (x l a : ℕ) → (held h rows).leader x ≡ suc l → lists_of lists x a ≡ (held h rows).domain x a
  pub left_fits : left < 2 ^ width
  pub left_free : (x : ℕ) → has left x ≡ true → (x < variables) × (free (held h rows) x ≡ true)
  pub rests : (i j a : ℕ) → free (held h rows) i ≡ true → free (held h rows) j ≡ true → (held h rows).stated i j ≡ true → has left j ≡ false
      → lists_of lists i a ≡ true → (b : ℕ) × (lists_of lists j b ≡ true) × ((held h rows).allows i j a b ≡ true)

-- Each turn takes one from what is left, or a value from a list.
unfoldable pub work : Head → List ℕ → List ℕ → ℕ → ℕ
work h rows lists left = value_count (held h rows) (lists_of lists) * 33 + count width (has left)

module _ (h : Head) (rows : List ℕ) (H : HeadShaped h) (S : Sound (held h rows)) (small : h.n ≤ variables) where
  abbrev N : Network
  N = held h rows

  stated-small : (x y : ℕ) → N.stated x y ≡ true → (x < variables) × (y < variables)
  unfolding held
  stated-small x y s = let b = S.stated_in x y s in (omega (arith, b.0), omega (arith, b.1))

  -- ---- the free variables as a word

  module _ {fr : ℕ} (fe : fr ≡ word variables (λ (x : ℕ). eqb (get_or h.leaders x 0) 0)) where
    free-e : (x : ℕ) → has fr x ≡ true → (x < variables) × (free N x ≡ true)
    unfolding held free
    free-e x t = let l = has-below variables fr x t (rw fe (word_lt variables _)) in (l, sym (has-ruled variables _ fe x l) ∙ t)

    free-i : (x : ℕ) → x < variables → free N x ≡ true → has fr x ≡ true
    unfolding held free
    free-i x l t = has-ruled variables _ fe x l ∙ t

    pub trimming-none : Trimming h rows h.domains fr
    unfolding lists_of held
    trimming-none =
        record {
          shaped = H.domains_array;
          cut = cut-start N;
          led = λ x l a e. refl;
          left_fits = let b : fr < 2 ^ 16 = rw fe (word_lt variables _) in omega arith;
          left_free = free-e;
          rests = λ i j a ti tj s f d. clash (free-i j (stated-small i j s).1 tj) f;
        }

  -- No list is left: the followers' are trimmed.
  pub trimming-end : {lists domains : List ℕ} {left : ℕ} → Trimming h rows lists left → left ≡ 0
      → domains ≡ tabulate variables (trimmed_at width rows lists h.leaders)
      → record { n = h.n; sizes = h.sizes; domains = domains; leaders = h.leaders; stated = h.stated } ≡ head_of (live_trimmed N)
  trimming-end {lists} T z e =
      ap (λ (d : List ℕ). record { n = h.n; sizes = h.sizes; domains = d; leaders = h.leaders; stated = h.stated }) e
      ∙ live-head h rows H S lists T.shaped T.cut (λ i j a ti tj s d. T.rests i j a ti tj s (rw z (has-zero j)) d) T.led

  -- A turn: j is the lowest of what is left.
  module _ {lists : List ℕ} {left j : ℕ} (T : Trimming h rows lists left) (nz : left ≡ 0 → ⊥) (low : j ≡ first width (has left)) where
    pub turn_in : j < variables
    turn_in = (T.left_free j (lowest-in width left j T.left_fits nz low).1).0

    turn-free : free N j ≡ true
    turn-free = (T.left_free j (lowest-in width left j T.left_fits nz low).1).1

    module _ {fr others : ℕ} (fe : fr ≡ word variables (λ (x : ℕ). eqb (get_or h.leaders x 0) 0))
        (oe : others ≡ word width (λ (u : ℕ). and (has (get_or h.stated j 0) u) (has fr u))) where
      -- The others are j's live neighbours.
      other-e : (x : ℕ) → has others x ≡ true → (free N x ≡ true) × (N.stated x j ≡ true)
      unfolding held
      other-e x t =
          let q : and (has (get_or h.stated j 0) x) (has fr x) ≡ true
          = sym (has-ruled width _ oe x (has-below width others x t (rw oe (word_lt width _)))) ∙ t in
          ((free-e fe x (and_r _ _ q)).1, S.stated_sym x j ∙ and_l _ _ q)

      other-i : (x : ℕ) → free N x ≡ true → N.stated x j ≡ true → has others x ≡ true
      unfolding held
      other-i x t s =
          let l = (stated-small x j s).0 in
          has-ruled width _ oe x (omega arith) ∙ and_i _ _ (S.stated_sym j x ∙ s) (free-i fe x l t)

      pub turn-self : has others j ≡ false
      turn-self = not-true→false _ (λ t. clash (other-e j t).1 (S.no_self j))

      pub turn-others : (x : ℕ) → has others x ≡ true → x < variables
      turn-others x t = (stated-small x j (other-e x t).1).0

      module _ {after : List ℕ} (ae : after ≡ tabulate variables (revised_at width rows lists others j)) where
        after-at : (x : ℕ) → get_or after x 0 ≡ revised_at width rows lists others j x
        after-at x =
            ap (λ (l : List ℕ). get_or l x 0) ae
            ∙ get_d-table variables _ x
            (λ past. sym (left_alone width rows lists others j x
            (not-true→false _ (λ t. let b = turn-others x t in omega arith)))
            ∙ array-past variables (2 ^ width) lists T.shaped x past)

        -- Who is no neighbour keeps its list,
        same : (x : ℕ) → has others x ≡ false → get_or after x 0 ≡ get_or lists x 0
        same x t = after-at x ∙ sym (left_alone width rows lists others j x t)

        -- and a neighbour's keeps what has a partner.
        against : (x a : ℕ) → has others x ≡ true
            → lists_of after x a ≡ and (lists_of lists x a) (some width (λ (b : ℕ). and (lists_of lists j b) (N.allows x j a b)))
        unfolding lists_of supported_at held
        against x a t =
            ap (λ (v : ℕ). has v a) (after-at x ∙ sym (held-against width rows lists others j x t refl))
            ∙ has_all width _ a (λ past. not-true→false _ (λ d.
            let z : ⊥ = omega (arith, has-below width _ a (and_l _ _ d) (T.shaped.element_lt x)) in z))

        revised-lt : (x : ℕ) → revised_at width rows lists others j x < 2 ^ width
        revised-lt x =
            by_cases (has others x)
            (λ t. rw (← held-against width rows lists others j x t refl) (unfold supported_at in word_lt width _))
            (λ t. rw (← left_alone width rows lists others j x t) (T.shaped.element_lt x))

        fewer : (x a : ℕ) → lists_of after x a ≡ true → lists_of lists x a ≡ true
        unfolding lists_of
        fewer x a d =
            by_cases (has others x)
            (λ t. and_l _ _ (sym (against x a t) ∙ d))
            (λ t. ap (λ (v : ℕ). has v a) (sym (same x t)) ∙ d)

        removes : Removes N (lists_of lists) (lists_of after)
        unfolding lists_of
        removes =
            record {
              fewer = λ x a t. fewer x a;
              cause = λ x a t d e.
                  by_cases (has others x)
                  (λ o. (
                    j,
                    turn-free,
                    (other-e x o).1,
                    λ b db. not-true→false _ (λ r.
                        clash (against x a o ∙ and_i _ _ d (some-i width _ b (has-below width _ b db (T.shaped.element_lt j)) (and_i _ _ db r))) e),
                  ))
                  (λ o. clash d (ap (λ (v : ℕ). has v a) (sym (same x o)) ∙ e));
            }

        module _ {changed dropped left' : ℕ} (ce : changed ≡ word variables (λ (x : ℕ). not (eqb (get_or lists x 0) (get_or after x 0))))
            (de : dropped ≡ word width (λ (u : ℕ). and (has left u) (not (eqb u (first width (has left))))))
            (le : left' ≡ word width (λ (u : ℕ). or (has dropped u) (has changed u))) where
          changed-e : (x : ℕ) → has changed x ≡ true → (x < variables) × (get_or lists x 0 ≡ get_or after x 0 → ⊥)
          changed-e x t =
              let l = has-below variables changed x t (rw ce (word_lt variables _)) in
              (l, eqb-false _ _ (not-e _ (sym (has-ruled variables _ ce x l) ∙ t)))

          -- A list that lost nothing is what it was.
          unchanged : (x : ℕ) → x < variables → has changed x ≡ false → get_or lists x 0 ≡ get_or after x 0
          unchanged x l f = eqb-true _ _ (not-false-e _ (sym (has-ruled variables _ ce x l) ∙ f))

          changed-other : (x : ℕ) → has changed x ≡ true → has others x ≡ true
          changed-other x t = by_cases (has others x) (λ o. o) (λ o. absurd ((changed-e x t).1 (sym (same x o))))

          now-left : (x : ℕ) → x < width → has left' x ≡ or (has dropped x) (has changed x)
          now-left x l = has-ruled width _ le x l

          still-left : (x : ℕ) → x < width → (x ≡ j → ⊥) → has dropped x ≡ has left x
          unfolding not
          still-left x l d = rest-is width T.left_fits nz low de x l ∙ rw (ne_eqb x j d) (and-true (has left x))

          pub turn_more : Trimming h rows after left'
          unfolding lists_of
          turn_more =
              record {
                shaped = subst (Array variables (2 ^ width)) (sym ae) (table-array variables (2 ^ width) _ (pow_pos width) (λ x _. revised-lt x));
                cut = cut-more N _ _ T.cut removes;
                led =
                    λ x l a e.
                    ap (λ (v : ℕ). has v a) (same x (not-true→false _ (λ t. clash (other-e x t).0 (led-not-free N x l e)))) ∙ T.led x l a e;
                left_fits = rw le (word_lt width _);
                left_free =
                    λ x t. let l = has-below width left' x t (rw le (word_lt width _)) in
                    or_elim _ _ (sym (now-left x l) ∙ t)
                    (λ d. T.left_free x (and_l _ _ (sym (rest-is width T.left_fits nz low de x l) ∙ d)))
                    (λ c. ((changed-e x c).0, (other-e x (changed-other x c)).0));
                rests =
                    λ i k a ti tk s f d.
                    is-or-not j
                    (λ (y : ℕ). free N y ≡ true → N.stated i y ≡ true → has left' y ≡ false
                    → (b : ℕ) × (lists_of after y b ≡ true) × (N.allows i y a b ≡ true))
                    (λ _ p _. some-e width _ (and_r _ _ (sym (against i a (other-i i ti p)) ∙ d))
                    (λ b _ q. (b, ap (λ (v : ℕ). has v b) (same j turn-self) ∙ and_l _ _ q, and_r _ _ q)))
                    (λ y ne t p g.
                    let l = (stated-small i y p).1 in
                    let o : or (has dropped y) (has changed y) ≡ false = sym (now-left y (omega arith)) ∙ g in
                    let q = T.rests i y a ti t p (sym (still-left y (omega arith) ne) ∙ or-false-l _ _ o) (fewer i a d) in
                    (q.0, ap (λ (v : ℕ). has v q.0) (sym (unchanged y l (or-false-r _ _ o))) ∙ q.1, q.2))
                    k tk s f;
              }

          -- A list that changed lost a value.
          lost : (x : ℕ) → has changed x ≡ true → value_count N (lists_of after) < value_count N (lists_of lists)
          unfolding lists_of
          lost x c =
              let o = other-e x (changed-other x c) in
              by_cases (every width (λ (a : ℕ). implies (lists_of lists x a) (lists_of after x a)))
              (λ t. absurd ((changed-e x c).1 (same-members width _ _ (T.shaped.element_lt x) (turn_more.shaped.element_lt x)
              (λ a l. bool-ext _ _ (implies-e _ _ (every-e width _ t a l)) (fewer x a)))))
              (λ t. every-not width _ t (λ a l q.
              by_cases (lists_of lists x a)
              (λ d. values_lt N _ _ fewer x a (S.stated_in x j o.1).0 (S.domain_in x a (T.cut.within x a o.0 d)) d
              (not-true→false _ (λ e. clash (implies-i _ _ (λ _. e)) q)))
              (λ d. clash (implies-false _ _ d) q)))

          pub turn-less : work h rows after left' < work h rows lists left
          unfolding work
          turn-less =
              by_cases (eqb changed 0)
              (λ t. omega (
                arith,
                values-le N _ _ fewer,
                rest-less width T.left_fits nz low de,
                count-fewer width (has left') (has dropped)
                    (λ u l p. or_elim _ _ (sym (now-left u l) ∙ p) (λ d. d) (λ c. clash c (rw (eqb-true changed 0 t) (has-zero u)))),
              ))
              (λ t. some-e variables (has changed) (nonempty variables changed (rw ce (word_lt variables _)) (eqb-false changed 0 t))
              (λ x _ c. omega (arith, lost x c, count-le width (has left'))))
