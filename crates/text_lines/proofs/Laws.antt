-- The lines of options: each case and each turn of a loop.
use mathlib.Core.List.{List, ◌++◌, append_assoc}
use mathlib.Core.Path.{◌≡◌, refl}
use Prim.Native.Nat.{ℕ, suc, ◌+◌, ◌≤◌, ◌<◌}
use lib.ListN.{length, get_or}
use borrow.Author.Tests.{eq-eqb, ne_eqb}
use Rattle.bounded.proofs.Bool.{if-true, if-false}
use Rattle.buffers.specs.Digits.{decimal}
use Rattle.buffers.specs.Wrote.{Wrote}
use Rattle.buffers.proofs.Laws.{wrote_then, wrote-text, turn-room, turn_more}
use Rattle.text_lines.specs.Text.{ascii, pair_line, live_line, option_line, option_lines}

pub wrote-pair : (first : List ℕ) (one : ℕ) (second : List ℕ) (two : ℕ) {a b c d : List ℕ} {at mid last r : ℕ} → Wrote a b (first ++ decimal one) at mid
    → Wrote b c (second ++ decimal two) mid last → Wrote c d (ascii "\n") last r → Wrote a d (pair_line first one second two) at r
unfolding pair_line
wrote-pair first one second two h k l = wrote-text (simp append_assoc) (wrote_then h (wrote_then k l))

-- An option with no leader is live,
pub option-live : (i leader list : ℕ) → leader ≡ 0 → option_line i leader list ≡ live_line (i + 1) list
unfolding option_line
option-live i leader list h = if-true _ _ _ (eq-eqb leader 0 h)

-- and any other follows.
pub option-follows : (i leader list : ℕ) → (leader ≡ 0 → ⊥) → option_line i leader list ≡ pair_line (ascii "FOLLOWS ") (i + 1) (ascii " OF ") leader
unfolding option_line
option-follows i leader list h = if-false _ _ _ (ne_eqb leader 0 h)

-- The lines of the options, one more with each turn.
module _ (leaders lists : List ℕ) where
  line : ℕ → List ℕ
  line k = option_line k (get_or leaders k 0) (get_or lists k 0)

  lines_more : (k : ℕ) → option_lines leaders lists (suc k) ≡ option_lines leaders lists k ++ line k
  unfolding line option_lines
  lines_more k = refl

  pub lines-room : (n i : ℕ) {a b : List ℕ} {at mid : ℕ} → i < n → at + length (option_lines leaders lists n) ≤ length a
      → Wrote a b (option_lines leaders lists i) at mid → mid + length (option_line i (get_or leaders i 0) (get_or lists i 0)) ≤ length b
  unfolding line
  lines-room = turn-room (option_lines leaders lists) line lines_more

  pub lines-turn : (i : ℕ) {a b c : List ℕ} {at mid r : ℕ} → Wrote a b (option_lines leaders lists i) at mid
      → Wrote b c (option_line i (get_or leaders i 0) (get_or lists i 0)) mid r → Wrote a c (option_lines leaders lists (i + 1)) at r
  unfolding line
  lines-turn = turn_more (option_lines leaders lists) line lines_more
