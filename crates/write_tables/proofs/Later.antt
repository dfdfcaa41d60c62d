-- A loop over the members of a word above i, lowest first, that writes a text for each: what has none between them writes nothing.
use mathlib.Core.Bool.{Bool, true, false}
use mathlib.Core.List.{List, [], append-nil}
use mathlib.Core.Path.{◌≡◌, sym, ◌∙◌, ap}
use Prim.Native.Nat.{ℕ, zero, suc, ◌+◌, ◌-◌, ◌^◌, ◌≤◌, ◌<◌}
use native.Mathlib.Nat.{add-zero}
use native.Mathlib.Omega.{arith}
use lib.Dec.{eqb, ltb, leb}
use lib.ListN.{length}
use borrow.Author.Tests.{le-ltb, le-leb, leb-true, ltb-true, ltb-false, eq-eqb, ne_eqb}
use Rattle.bounded.specs.Bool.{and, not}
use Rattle.bounded.specs.Fold.{first}
use Rattle.bounded.proofs.Bool.{by_cases, bool-ext, clash, and_i, and_l, and_r, and_comm, and-holds, not-i, not-e}
use Rattle.bounded.proofs.Fold.{first_below}
use Rattle.buffers.specs.Wrote.{Wrote}
use Rattle.words.specs.Word.{has, word}
use Rattle.words.proofs.Laws.{has-ruled, has-zero, word_lt}
use Rattle.pairs.proofs.Runs.{lowest-in, rest-is, rest_lt}
use Rattle.write_tables.specs.Texts.{joined}
use Rattle.write_tables.proofs.Texts.{wrote-start, wrote-next, joined-more}

-- Parts that are empty add nothing.
joined-skip : (f : ℕ → List ℕ) (d k l : ℕ) → k ≤ l → ((j : ℕ) → l ≤ j → j < l + d → f j ≡ []) → joined k (l + d) f ≡ joined k l f
joined-skip f zero k l h e = rw add-zero
joined-skip f (suc d) k l h e =
    rw (let m : l + suc d ≡ l + d + 1 = omega arith in m)
    (joined-more k (l + d) f (omega arith) ∙ rw (e (l + d) (omega arith) (omega arith)) (append-nil _ ∙ joined-skip f d k l h (λ j m n. e j m (omega arith))))

-- The texts of the members below `from` are written, and the rest is those at and above it.
pub record LaterSoFar (w : ℕ) (f : ℕ → List ℕ) (stated i n : ℕ) (before buffer : List ℕ) (at next rest : ℕ) : Type 0 where
  pub from : ℕ
  pub above : i + 1 ≤ from
  pub within : from ≤ n
  pub wrote : Wrote before buffer (joined (i + 1) from f) at next
  pub rest_fits : rest < 2 ^ w
  pub rest_has : (j : ℕ) → j < w → has rest j ≡ and (leb from j) (has stated j)

above-not : (i j : ℕ) → not (ltb j (i + 1)) ≡ leb (i + 1) j
above-not i j =
    bool-ext _ _
    (λ t. le-leb (i + 1) j (ltb-false _ _ (not-e _ t)))
    (λ t. not-i _ (le-ltb j (i + 1) (leb-true _ _ t)))

module _ (w : ℕ) (f : ℕ → List ℕ) {stated i n : ℕ} {before : List ℕ} {at : ℕ} where
  pub later-none : {full later rest : ℕ} → i < n → at ≤ length before → full ≡ word w (λ (u : ℕ). ltb u (i + 1))
      → later ≡ word w (λ (u : ℕ). and (has stated u) (not (has full u))) → rest ≡ later → LaterSoFar w f stated i n before before at at rest
  later-none l r e d m =
      rw m record {
        from = i + 1;
        above = omega arith;
        within = omega arith;
        wrote = wrote-start (i + 1) f r;
        rest_fits = rw d (word_lt w _);
        rest_has = λ j m. has-ruled w _ d j m ∙ rw (has-ruled w _ e j m) (and_comm _ _ ∙ ap (λ (b : Bool). and b (has stated j)) (above-not i j));
      }

  module _
      (few : n ≤ w) (silent : (j : ℕ) → has stated j ≡ false → f j ≡ [])
      {buffer : List ℕ} {next rest : ℕ} (so_far : LaterSoFar w f stated i n before buffer at next rest)
    where
      -- From `from` up to where the rest begins nothing is stated.
      quiet : (d : ℕ) → so_far.from + d ≤ n → ((j : ℕ) → so_far.from ≤ j → j < so_far.from + d → has rest j ≡ false)
          → joined (i + 1) (so_far.from + d) f ≡ joined (i + 1) so_far.from f
      quiet d l none =
          joined-skip f d (i + 1) so_far.from so_far.above (λ j m u.
          silent j (sym (and-holds _ _ (le-leb _ _ m)) ∙ sym (so_far.rest_has j (omega arith)) ∙ none j m u))

      pub later-end : rest ≡ 0 → Wrote before buffer (joined (i + 1) n f) at next
      later-end z =
          let e : so_far.from + (n - so_far.from) ≡ n = omega (arith, so_far.within) in
          rw (sym (rw e at (quiet (n - so_far.from) (omega arith) (λ j m u. rw z (has-zero j))))) at so_far.wrote

      module _ (below : (j : ℕ) → has stated j ≡ true → j < n) (some : rest ≡ 0 → ⊥) {j : ℕ} (low : j ≡ first w (has rest)) where
        -- The next one is stated, and all before it are written.
        pub later-next : (i < j) × (j < n) × Wrote before buffer (joined (i + 1) j f) at next
        later-next =
            let m = lowest-in w rest j so_far.rest_fits some low in
            let b = sym (so_far.rest_has j m.0) ∙ m.1 in
            let l = leb-true so_far.from j (and_l _ _ b) in
            let h = below j (and_r _ _ b) in
            let e : so_far.from + (j - so_far.from) ≡ j = omega arith in (
              omega (arith, so_far.above),
              h,
              rw (sym (rw e at (quiet (j - so_far.from) (omega arith) (λ k u v. first_below w (has rest) k (rw low at (let m : k < j = omega arith in m))))))
                  at so_far.wrote,
            )

        pub later_more : {buffer' : List ℕ} {r rest' : ℕ} → Wrote buffer buffer' (f j) next r
            → rest' ≡ word w (λ (u : ℕ). and (has rest u) (not (eqb u (first w (has rest)))))
            → LaterSoFar w f stated i n before buffer' at r rest'
        later_more {rest'} wrote_it re =
            let m = later-next in
            record {
              from = j + 1;
              above = omega (arith, m.0);
              within = omega (arith, m.1);
              wrote = wrote-next f (omega (arith, m.0)) m.2 wrote_it;
              rest_fits = rest_lt w so_far.rest_fits some low re;
              rest_has = λ u l. rest-is w so_far.rest_fits some low re u l ∙ after u l;
            }
          where
            from_le : so_far.from ≤ j
            from_le =
                let m = lowest-in w rest j so_far.rest_fits some low in
                leb-true so_far.from j (and_l _ _ (sym (so_far.rest_has j m.0) ∙ m.1))

            after : (u : ℕ) → u < w → and (has rest u) (not (eqb u j)) ≡ and (leb (j + 1) u) (has stated u)
            after u l =
                bool-ext _ _
                (λ t. and_i _ _
                (le-leb (j + 1) u (higher u (and_l _ _ t) (not-e _ (and_r _ _ t))))
                (and_r _ _ (sym (so_far.rest_has u l) ∙ and_l _ _ t)))
                (λ t. let h = leb-true (j + 1) u (and_l _ _ t) in
                and_i _ _
                (so_far.rest_has u l ∙ and_i _ _ (le-leb so_far.from u (omega (arith, from_le))) (and_r _ _ t))
                (not-i _ (ne_eqb u j (λ q. omega arith))))
              where
                higher : (u : ℕ) → has rest u ≡ true → eqb u j ≡ false → j + 1 ≤ u
                higher u t d =
                    by_cases (ltb u j)
                    (λ s. clash t (first_below w (has rest) u (rw low at (ltb-true u j s))))
                    (λ s. let g = ltb-false u j s in by_cases (ltb j u) (λ p. omega (arith, ltb-true j u p)) (λ p. clash (eq-eqb u j (omega (arith, g, ltb-false j u p))) d))
