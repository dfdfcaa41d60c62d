-- What a program makes of bytes, in any parts, is what it makes of the lines.
use mathlib.Core.Bool.{Bool, true, false}
use mathlib.Core.List.{List, [], ◌∷◌, ◌++◌, append_assoc, append-nil}
use mathlib.Core.Path.{◌≡◌, refl, sym, ◌∙◌, ap}
use Prim.Native.Nat.{ℕ}
use lib.Dec.{eqb}
use borrow.Author.Tests.{eqb-true}
use Rattle.bounded.specs.Bool.{if}
use Rattle.bounded.proofs.Bool.{by_cases, if-false}
use Rattle.stream.specs.Lines.{on_first, lines_of}
use Rattle.stream.specs.Program.{Program, seen_from, seen_of, answers, state_after}
use Rattle.stream.specs.Bytes.{At, start, ended, moved, next, text, after, texts, last_text, last_state, parts_text, parts_state, joined}
use Rattle.stream.proofs.Parts.{next-moved, text-moved, parts-text, parts-state}

-- No line feed is among these bytes, and whether there is one at all.
unfoldable NoFeed : List ℕ → Type 0
NoFeed [] = Unit {0}
NoFeed (b ∷ bs) = (eqb b 10 ≡ false) × NoFeed bs

unfoldable some : List ℕ → Bool
some [] = false
some (b ∷ bs) = true

no-feed-more : (p : List ℕ) (b : ℕ) → NoFeed p → eqb b 10 ≡ false → NoFeed (p ++ (b ∷ []))
unfolding NoFeed
no-feed-more [] b n h = (h, tt)
no-feed-more (x ∷ p) b n h = (n.0, no-feed-more p b n.1 h)

some_more : (p : List ℕ) (b : ℕ) → some (p ++ (b ∷ [])) ≡ true
unfolding some
some_more [] b = refl
some_more (x ∷ p) b = refl

-- The lines of bytes that begin a line: up to a line feed,
lines-fed : (p bs : List ℕ) → NoFeed p → lines_of (p ++ (10 ∷ bs)) ≡ p ∷ lines_of bs
unfolding lines_of on_first NoFeed if
lines-fed [] bs n = refl
lines-fed (x ∷ p) bs n = if-false _ _ _ n.0 ∙ ap (on_first x) (lines-fed p bs n.1)

-- and without any.
line-alone : (x : ℕ) (p : List ℕ) → NoFeed (x ∷ p) → lines_of (x ∷ p) ≡ (x ∷ p) ∷ []
unfolding lines_of on_first NoFeed
line-alone x [] n = if-false _ _ _ n.0
line-alone x (y ∷ p) n = if-false _ _ _ n.0 ∙ ap (on_first x) (line-alone y p n.1)

module _ {L S : Type 0} (P : Program L S) where
  seen_more : (s : L) (p : List ℕ) (b : ℕ) → seen_from P s (p ++ (b ∷ [])) ≡ P.step (seen_from P s p) b
  unfolding seen_from
  seen_more s [] b = refl
  seen_more s (x ∷ p) b = seen_more (P.step s x) p b

  -- These bytes of a line were seen.
  unfoldable at_bytes : S → List ℕ → At L S
  at_bytes σ p = record { seen = seen_of P p; begun = some p; state = σ }

  at-feed : (σ : S) (p : List ℕ) → ended P (at_bytes σ p) ≡ at_bytes (P.act σ (seen_of P p)) []
  unfolding ended at_bytes seen_of seen_from some
  at-feed σ p = refl

  at_byte : (σ : S) (p : List ℕ) (b : ℕ) → moved P (at_bytes σ p) b ≡ at_bytes σ (p ++ (b ∷ []))
  unfolding moved at_bytes seen_of
  at_byte σ p b = rw (seen_more P.opening p b, some_more p b)

  -- From any place of a line on.
  record ByLine (σ : S) (p bytes : List ℕ) : Type 0 where
    text_is : texts P (at_bytes σ p) bytes ++ last_text P (after P (at_bytes σ p) bytes) ≡ answers P σ (lines_of (p ++ bytes))
    state_is : last_state P (after P (at_bytes σ p) bytes) ≡ state_after P σ (lines_of (p ++ bytes))

  at-end : (σ : S) (p : List ℕ) → NoFeed p → ByLine σ p []
  unfolding texts after last_text last_state at_bytes some answers state_after lines_of if
  at-end σ [] n = record { text_is = refl; state_is = refl }
  at-end σ (x ∷ p) n =
      let e : lines_of ((x ∷ p) ++ []) ≡ (x ∷ p) ∷ [] = ap lines_of (append-nil (x ∷ p)) ∙ line-alone x p n in
      record {
        text_is = sym (append-nil (P.answer σ (seen_of P (x ∷ p)))) ∙ sym (ap (answers P σ) e);
        state_is = sym (ap (state_after P σ) e);
      }

  -- A line feed: the line is answered, and the next begins.
  fed : (σ : S) (p bs : List ℕ) → NoFeed p → ByLine (P.act σ (seen_of P p)) [] bs → ByLine σ p (10 ∷ bs)
  unfolding texts after next text answers state_after if at_bytes seen_of
  fed σ p bs n h =
      let e = lines-fed p bs n in
      let a = P.answer σ (seen_of P p) in
      let y = at_bytes (P.act σ (seen_of P p)) [] in
      record {
        text_is = rw (at-feed σ p) (append_assoc a (texts P y bs) (last_text P (after P y bs)) ∙ ap (λ (t : List ℕ). a ++ t) h.text_is ∙ sym (ap (answers P σ) e));
        state_is = rw (at-feed σ p) (h.state_is ∙ sym (ap (state_after P σ) e));
      }

  -- Any other byte: the line goes on.
  gone-on : (σ : S) (p : List ℕ) (b : ℕ) (bs : List ℕ) → eqb b 10 ≡ false → ByLine σ (p ++ (b ∷ [])) bs → ByLine σ p (b ∷ bs)
  unfolding texts after
  gone-on σ p b bs n h =
      let e : (p ++ (b ∷ [])) ++ bs ≡ p ++ (b ∷ bs) = append_assoc p (b ∷ []) bs in
      let m : next P (at_bytes σ p) b ≡ at_bytes σ (p ++ (b ∷ [])) = next-moved P (at_bytes σ p) b n ∙ at_byte σ p b in
      record {
        text_is = rw (text-moved P (at_bytes σ p) b n, m) (h.text_is ∙ ap (λ (l : List ℕ). answers P σ (lines_of l)) e);
        state_is = rw m (h.state_is ∙ ap (λ (l : List ℕ). state_after P σ (lines_of l)) e);
      }

  by-line : (bytes : List ℕ) (σ : S) (p : List ℕ) → NoFeed p → ByLine σ p bytes
  unfolding NoFeed
  by-line [] σ p n = at-end σ p n
  by-line (b ∷ bs) σ p n =
      by_cases (eqb b 10)
      (λ t. rw (eqb-true b 10 t) (fed σ p bs n (by-line bs (P.act σ (seen_of P p)) [] tt)))
      (λ t. gone-on σ p b bs t (by-line bs σ (p ++ (b ∷ [])) (no-feed-more p b n t)))

  at-start : (σ : S) → start P σ ≡ at_bytes σ []
  unfolding start at_bytes seen_of seen_from some
  at-start σ = refl

  -- THEOREM. What any program prints byte by byte, and at the end, are its answers to the lines;
  pub line-by-line : (bytes : List ℕ) (σ : S) → texts P (start P σ) bytes ++ last_text P (after P (start P σ) bytes) ≡ answers P σ (lines_of bytes)
  unfolding NoFeed
  line-by-line bytes σ = rw (at-start σ) (by-line bytes σ [] tt).text_is

  -- the state at the end is that after the lines;
  pub state-by-line : (bytes : List ℕ) (σ : S) → last_state P (after P (start P σ) bytes) ≡ state_after P σ (lines_of bytes)
  unfolding NoFeed
  state-by-line bytes σ = rw (at-start σ) (by-line bytes σ [] tt).state_is

  -- and both so for an input in any parts.
  pub any-parts : (ps : List (List ℕ)) (σ : S)
      → (parts_text P (start P σ) ps ≡ answers P σ (lines_of (joined ps))) × (parts_state P (start P σ) ps ≡ state_after P σ (lines_of (joined ps)))
  any-parts ps σ =
      (parts-text P ps (start P σ) ∙ line-by-line (joined ps) σ, parts-state P ps (start P σ) ∙ state-by-line (joined ps) σ)
