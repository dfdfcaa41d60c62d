-- The cases of the lines, and the value of a follower.
use mathlib.Core.Bool.{Bool, true, false}
use mathlib.Core.List.{List, [], ◌++◌}
use mathlib.Core.Path.{◌≡◌, sym, ◌∙◌, ap}
use Prim.Native.Nat.{ℕ, suc, pred, ◌+◌, ◌<◌}
use native.Mathlib.Numerals.{add-one}
use native.Mathlib.Omega.{arith}
use lib.Dec.{eqb}
use lib.ListN.{length, get_or}
use borrow.Author.Tests.{eqb-true}
use Rattle.bounded.specs.Bool.{and}
use Rattle.bounded.specs.Fold.{first, some}
use Rattle.bounded.proofs.Bool.{if-true, if-false}
use Rattle.bounded.proofs.Fold.{first_cong, first-widen, some-i, some-none}
use Rattle.std.specs.Bool.{MatchBool}
use Rattle.std.specs.List.{HoldsAt, AllWithin, range_with_len}
use Rattle.std.proofs.lemmas.List.FromFn.{length-range_with_len, get_or-range_with_len}
use Rattle.words.specs.Word.{width, has, word}
use Rattle.words.proofs.Laws.{has-ruled, has-below}
use Rattle.network.specs.Network.{Network, partner}
use Rattle.network.specs.Completion.{follow}
use Rattle.network.proofs.Sound.{leader-not-self, partner-some}
use Rattle.pairs.specs.Pairs.{allows_of}
use Rattle.head.specs.declared.Head.{Head}
use Rattle.head.specs.Held.{HeadShaped, held, sound_in}
use Rattle.head.proofs.Held.{held-sound, held-size}
use Rattle.buffers.specs.Digits.{decimal}
use Rattle.text_lines.specs.Text.{ascii}
use Rattle.text_put.specs.Put.{Put, each}
use Rattle.text_put.proofs.Laws.{put_then}
use Rattle.plan_lines.specs.Lines.{spaced}
use Rattle.plan_ifs.specs.Ifs.{leads, then_text, if_text, if_line, if_lines_of}

module _ (h : Head) (rows : List ℕ) where
  abbrev N : Network
  N = held h rows

  pub then-none : (i a j : ℕ) → eqb (get_or h.leaders j 0) (i + 1) ≡ false → then_text (held h rows) i a j ≡ []
  unfolding then_text leads held
  then-none i a j t = if-false _ _ _ t

  pub then_some : (i a j : ℕ) → eqb (get_or h.leaders j 0) (i + 1) ≡ true → then_text (held h rows) i a j ≡ spaced (j + 1) ++ spaced (follow (held h rows) j a)
  unfolding then_text leads held
  then_some i a j t = if-true _ _ _ t

  pub if-out : (i a : ℕ) → has (get_or h.domains i 0) a ≡ false → if_line (held h rows) i a ≡ []
  unfolding if_line held
  if-out i a t = if-false _ _ _ t

  pub if-in : (i a : ℕ) → has (get_or h.domains i 0) a ≡ true → if_line (held h rows) i a ≡ if_text (held h rows) i a
  unfolding if_line held
  if-in i a t = if-true _ _ _ t

  pub ifs-none : (i : ℕ) → some h.n (λ (j : ℕ). eqb (get_or h.leaders j 0) (i + 1)) ≡ false → if_lines_of (held h rows) i ≡ []
  unfolding if_lines_of leads held
  ifs-none i t = if-false _ _ _ t

  pub ifs-some : (i : ℕ) → some h.n (λ (j : ℕ). eqb (get_or h.leaders j 0) (i + 1)) ≡ true
      → if_lines_of (held h rows) i ≡ each (if_line (held h rows) i) width
  unfolding if_lines_of leads held
  ifs-some i t = if-true _ _ _ t

  -- In a sound state: a follower of i, and a value of i that is in its list.
  module _ (S : HeadShaped h) (t : sound_in h rows ≡ true) where
    led-by : (i j : ℕ) → eqb (get_or h.leaders j 0) (i + 1) ≡ true → get_or h.leaders j 0 ≡ suc i
    led-by i j e = eqb-true _ (i + 1) e ∙ add-one i

    pub other : (i j : ℕ) → eqb (get_or h.leaders j 0) (i + 1) ≡ true → i ≡ j → ⊥
    unfolding held
    other i j e = leader-not-self (held h rows) (held-sound h rows S t) j i (led-by i j e)

    pub value-width : (i a : ℕ) → has (get_or h.domains i 0) a ≡ true → a < width
    value-width i a m = has-below width _ _ m (S.domains_array.element_lt i)

    -- The lowest partner in the two words is the completer's.
    pub partner-is : (i a j : ℕ) → eqb (get_or h.leaders j 0) (i + 1) ≡ true → has (get_or h.domains i 0) a ≡ true
        → {among both r : ℕ} → among ≡ word width (allows_of width rows i j a)
        → both ≡ word width (λ (u : ℕ). and (has (get_or h.domains j 0) u) (has among u)) → r ≡ first width (has both)
        → r ≡ follow (held h rows) j a
    unfolding follow held partner
    partner-is i a j e m {among} {both} {r} row_is both_is r-is =
        let most = held-size h rows S t j in
        let led = led-by i j e in
        r-is
        ∙ first_cong width _ (λ (u : ℕ). and (has (get_or h.domains j 0) u) (allows_of width rows i j a u))
        (λ u l. has-ruled width _ both_is u l ∙ ap (and (has (get_or h.domains j 0) u)) (has-ruled width _ row_is u l))
        ∙ first-widen (get_or h.sizes j 0) width _ (omega arith) (partner-some (held h rows) (held-sound h rows S t) j i a led m)
        ∙ ap (λ (l : ℕ). first (get_or h.sizes j 0) (λ (u : ℕ). and (has (get_or h.domains j 0) u) (allows_of width rows l j a u)))
        (sym (ap pred led))

-- An option among the first n passes, or none does.
pub some_told : (n : ℕ) (p : ℕ → Bool) (r : Bool)
    → MatchBool r ((k : ℕ) × (k < length (range_with_len 0 n)) × HoldsAt (λ x. p x ≡ true) (range_with_len 0 n) k)
    (AllWithin (λ x. p x ≡ false) (range_with_len 0 n) 0 (length (range_with_len 0 n)))
    → r ≡ some n p
some_told n p true h =
    let l : h.0 < n = omega (arith, h.1, length-range_with_len 0 n) in
    let e : get_or (range_with_len 0 n) h.0 0 ≡ h.0 = omega (arith, get_or-range_with_len 0 n h.0 0 l) in
    sym (some-i n p h.0 l (rw e at (h.2 0)))
some_told n p false h =
    sym (some-none n p (λ k l.
    let e : get_or (range_with_len 0 n) k 0 ≡ k = omega (arith, get_or-range_with_len 0 n k 0 l) in
    rw e at (h k 0 (omega arith) (omega (arith, length-range_with_len 0 n)))))

-- A line from its parts.
pub if-put : (N : Network) (i v : ℕ) {a b c d e f : List ℕ} {at named valued titled followed r : ℕ} → Put a b (ascii "IF " ++ decimal (i + 1)) at named
    → Put b c (spaced v) named valued → Put c d (ascii " THEN") valued titled → Put d e (each (then_text N i v) N.n) titled followed
    → Put e f (ascii "\n") followed r → Put a f (if_text N i v) at r
unfolding if_text
if-put N i v h k l m o = put_then h (put_then k (put_then l (put_then m o)))
