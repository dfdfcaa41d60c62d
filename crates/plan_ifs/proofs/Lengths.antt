-- How long the lines can be.
use mathlib.Core.Bool.{true}
use mathlib.Core.List.{List}
use mathlib.Core.Path.{◌≡◌}
use Prim.Native.Nat.{ℕ, pred, ◌+◌, ◌≤◌, ◌<◌}
use native.Mathlib.Omega.{arith}
use lib.Dec.{eqb}
use lib.ListN.{length, get_or, length-append}
use Rattle.bounded.specs.Fold.{some}
use Rattle.bounded.proofs.Bool.{by_cases}
use Rattle.bounded.proofs.Fold.{first-le}
use Rattle.words.specs.Word.{has}
use Rattle.buffers.proofs.Digits.{length-decimal-le}
use Rattle.network.specs.Network.{partner}
use Rattle.network.specs.Completion.{follow}
use Rattle.head.specs.declared.Head.{Head}
use Rattle.head.specs.Held.{HeadShaped, held, sound_in}
use Rattle.head.proofs.Held.{held-n, held-size}
use Rattle.text_lines.specs.Text.{ascii}
use Rattle.text_put.proofs.Laws.{length-each}
use Rattle.plan_lines.proofs.Lengths.{spaced-le}
use Rattle.plan_ifs.specs.Ifs.{then_text, if_text, if_line, if_lines_of, if_lines}
use Rattle.plan_ifs.proofs.Laws.{then-none, then_some, if-out, if-in, ifs-none, ifs-some}

module _ (h : Head) (rows : List ℕ) (S : HeadShaped h) (t : sound_in h rows ≡ true) where
  follow-le : (j a : ℕ) → follow (held h rows) j a ≤ 32
  unfolding follow held
  follow-le j a =
      let most = held-size h rows S t j in
      omega (arith, first-le (get_or h.sizes j 0) (partner (held h rows) (pred (get_or h.leaders j 0)) j a))

  then-le : (i a j : ℕ) → j < 16 → length (then_text (held h rows) i a j) ≤ 6
  then-le i a j l =
      by_cases (eqb (get_or h.leaders j 0) (i + 1))
      (λ e. rw (then_some h rows i a j e)
      (simp length-append (omega (arith, spaced-le 1 (j + 1) (omega arith), spaced-le 1 (follow (held h rows) j a) (omega (arith, follow-le j a))))))
      (λ e. rw (then-none h rows i a j e) (omega arith))

  if-text-le : (i a : ℕ) → i < 16 → a < 32 → length (if_text (held h rows) i a) ≤ 110
  unfolding if_text held ascii
  if-text-le i a l m =
      let n = held-n h rows t in
      simp length-append
      (omega (
        arith,
        length-decimal-le 1 (i + 1) (omega arith),
        spaced-le 1 a (omega arith),
        length-each (then_text (held h rows) i a) h.n 6 (λ j k. then-le i a j (omega arith)),
      ))

  if-le : (i a : ℕ) → i < 16 → a < 32 → length (if_line (held h rows) i a) ≤ 110
  if-le i a l m =
      by_cases (has (get_or h.domains i 0) a)
      (λ e. rw (if-in h rows i a e) (if-text-le i a l m))
      (λ e. rw (if-out h rows i a e) (omega arith))

  ifs-of-le : (i : ℕ) → i < 16 → length (if_lines_of (held h rows) i) ≤ 3520
  ifs-of-le i l =
      by_cases (some h.n (λ (j : ℕ). eqb (get_or h.leaders j 0) (i + 1)))
      (λ e. rw (ifs-some h rows i e) (omega (arith, length-each (if_line (held h rows) i) 32 110 (λ a m. if-le i a l m))))
      (λ e. rw (ifs-none h rows i e) (omega arith))

  pub ifs-le : length (if_lines (held h rows)) ≤ 56320
  unfolding if_lines held
  ifs-le =
      let n = held-n h rows t in
      omega (arith, length-each (if_lines_of (held h rows)) h.n 3520 (λ i l. ifs-of-le i (omega arith)))
