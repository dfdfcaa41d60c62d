-- How long the lines can be.
use mathlib.Core.Bool.{Bool}
use mathlib.Core.List.{List}
use Prim.Native.Nat.{ℕ, ◌+◌, ◌^◌, ◌≤◌, ◌<◌}
use native.Mathlib.Numerals.{add-one}
use native.Mathlib.Omega.{arith}
use lib.Dec.{eqb}
use lib.ListN.{length, get_or, length-append}
use borrow.Author.Tests.{eqb-true, eqb-false}
use Rattle.std.specs.Prelude.{Result, Ok, Err}
use Rattle.bounded.proofs.Bool.{by_cases}
use Rattle.words.specs.Word.{has}
use Rattle.buffers.proofs.Digits.{length-decimal-le}
use Rattle.cause.specs.declared.Cause.{Cause}
use Rattle.answers.specs.declared.Verdict.{Verdict}
use Rattle.answers.specs.declared.Verdict.TheVariants as verdict
use Rattle.answers.specs.Answers.{verdict_told, verdict_solution}
use Rattle.text_lines.specs.Text.{ascii}
use Rattle.text_put.specs.Put.{each}
use Rattle.text_put.proofs.Laws.{length-each, digits-64}
use Rattle.text_phrase.proofs.Laws.{refusal-le, cause-small}
use Rattle.plan_lines.specs.Lines.{spaced, value_among, values_line, option_line, option_lines, stock_line, stock_lines, idle_word, idle_line, idle_lines, build_texts, built_text, refused_text, ruling_text, builds_line}
use Rattle.plan_lines.proofs.Laws.{value_in, value_out, option-live, option-follows, stock-none, stock-some, builds-over, builds-told}

pub spaced-le : (d k : ℕ) → k < 10 ^ (d + 1) → length (spaced k) ≤ d + 2
unfolding spaced ascii
spaced-le d k h = simp length-append (omega (arith, length-decimal-le d k (rw add-one at h)))

value-le : (x v : ℕ) → v < 32 → length (value_among x v) ≤ 3
value-le x v h =
    by_cases (has x v)
    (λ t. rw (value_in x v t) (omega (arith, spaced-le 1 v (omega arith))))
    (λ t. rw (value_out x v t) (omega arith))

values-le : (x : ℕ) → length (each (value_among x) 32) ≤ 96
values-le x = omega (arith, length-each (value_among x) 32 3 (value-le x))

pub line-le : (kind : List ℕ) (i x : ℕ) → i < 16 → length (values_line kind i x) ≤ length kind + 106
unfolding values_line ascii
line-le kind i x h = simp length-append (omega (arith, values-le x, length-decimal-le 1 (i + 1) (omega arith)))

option-le : (i leader list : ℕ) → i < 16 → leader < 256 → length (option_line i leader list) ≤ 111
unfolding ascii
option-le i leader list h l =
    by_cases (eqb leader 0)
    (λ t. rw (option-live i leader list (eqb-true leader 0 t)) (omega (arith, line-le (ascii "LIVE ") i list h)))
    (λ t. rw (option-follows i leader list (eqb-false leader 0 t))
    (simp length-append (omega (arith, length-decimal-le 1 (i + 1) (omega arith), length-decimal-le 2 leader (omega arith)))))

pub options_le : (leaders lists : List ℕ) (n : ℕ) → n ≤ 16 → ((k : ℕ) → get_or leaders k 0 < 256) → length (option_lines leaders lists n) ≤ 1776
unfolding option_lines
options_le leaders lists n h b = omega (arith, length-each (λ (i : ℕ). option_line i (get_or leaders i 0) (get_or lists i 0)) n 111 (λ k l. option-le k (get_or leaders k 0) (get_or lists k 0) (omega arith) (b k)))

stock-le : (kind : List ℕ) (i x : ℕ) → i < 16 → length (stock_line kind i x) ≤ length kind + 106
stock-le kind i x h =
    by_cases (eqb x 0)
    (λ t. rw (stock-none kind i x (eqb-true x 0 t)) (omega arith))
    (λ t. rw (stock-some kind i x (eqb-false x 0 t)) (line-le kind i x h))

pub stocks-le : (kind words : List ℕ) (n : ℕ) → n ≤ 16 → length kind ≤ 6 → length (stock_lines kind words n) ≤ 1792
unfolding stock_lines
stocks-le kind words n h k = omega (arith, length-each (λ (i : ℕ). stock_line kind i (get_or words i 0)) n 112 (λ i l. let m = stock-le kind i (get_or words i 0) (omega arith) in omega arith))

pub idles-le : (sizes words : List ℕ) (n : ℕ) → n ≤ 16 → length (idle_lines sizes words n) ≤ 1776
unfolding idle_lines idle_line ascii
idles-le sizes words n h = omega (arith, length-each (λ (i : ℕ). stock_line (ascii "IDLE ") i (idle_word (get_or sizes i 0) (get_or words i 0))) n 111 (λ i l. stock-le (ascii "IDLE ") i (idle_word (get_or sizes i 0) (get_or words i 0)) (omega arith)))

built-le : (build : List ℕ) (n : ℕ) → n ≤ 16 → ((k : ℕ) → get_or build k 0 < 256) → length (built_text build n) ≤ 71
unfolding built_text build_texts ascii
built-le build n h b =
    simp length-append (omega (arith, length-each (λ (i : ℕ). spaced (get_or build i 0)) n 4 (λ k l. spaced-le 2 (get_or build k 0) (omega (arith, b k)))))

pub ruling-le : (v : Result Verdict Cause) (n : ℕ) → n ≤ 16 → ((k : ℕ) → get_or (verdict_solution (verdict_told v)) k 0 < 256)
    → length (ruling_text (verdict_told v) n) ≤ 154
unfolding ruling_text verdict_told verdict_solution refused_text ascii
ruling-le (Ok verdict.None) n h b = omega arith
ruling-le (Ok (verdict.Built build)) n h b = omega (arith, built-le build n h b)
ruling-le (Ok verdict.Open) n h b = omega arith
ruling-le (Err c) n h b = simp length-append (omega (arith, refusal-le _ (cause-small c)))

pub builds-le : (more : Bool) (builds : ℕ) → builds < 2 ^ 64 → length (builds_line more builds) ≤ 33
unfolding ascii
builds-le more builds h =
    by_cases more
    (λ t. rw (builds-over more builds t) (omega arith))
    (λ t. rw (builds-told more builds t) (simp length-append (omega (arith, digits-64 builds h))))
