-- The loop's invariant: the first `b` rows of the pair have the bit of `a` as it is to be, and their other bits as before.
use mathlib.Core.List.{List}
use mathlib.Core.Path.{◌≡◌}
use Prim.Native.Nat.{ℕ, ◌+◌, ◌-◌, ◌≤◌, ◌<◌}
use native.Mathlib.Numerals.{add-one}
use native.Mathlib.Omega.{arith}
use lib.Dec.{eqb}
use lib.ListN.{length, get_or, set}
use borrow.Author.Rules.{rules}
use Rattle.bounded.specs.Bool.{if}
use Rattle.words.specs.Word.{has, word}
use Rattle.pairs.specs.Frames.{RunPut}
use Rattle.pairs.proofs.Frames.{run_none, run_more, run-next, column-put}
use Rattle.pairs_store.proofs.put_column.Statement.{statement}
use Rattle.pairs_store.proofs.put_column.Tie as tie

abbrev bits : List ℕ → ℕ → ℕ → ℕ → ℕ → ℕ
bits rows at a x b = word 32 (λ (v : ℕ). if (eqb v a) (has x b) (has (get_or rows (at + b) 0) v))

abbrev invariant-loop : tie.invariant-loop-b
invariant-loop rows₀ i j a x at b₀ rows b = (b ≤ 32) × RunPut rows₀ rows at (bits rows₀ at a x) b

abbrev decreases-loop : tie.decreases-loop-b
decreases-loop rows₀ i j a x at b₀ rows b = 32 - b

loop-holds : tie.Need-loop-b-init invariant-loop decreases-loop
loop-holds c = (omega arith, run_none _ _ _)

more : {rows between : List ℕ} {at : ℕ} (a x : ℕ) {b r : ℕ} → RunPut rows between at (bits rows at a x) b → at + b < length rows
    → r ≡ word 32 (λ (v : ℕ). if (eqb v a) (has x b) (has (get_or between (at + b) 0) v))
    → RunPut rows (set between (at + b) r) at (bits rows at a x) (b + 1)
more {rows} {between} {at} a x {b} p l e = rw add-one (run_more p l (rw (run-next rows between at _ b p) at e))

loop-again : tie.Need-loop-b-preserved invariant-loop decreases-loop
loop-again c =
    let s = c in
    (omega arith, more s.args.a s.args.x c.loop-b.invariant.1 (omega arith) c.marked.ensures)

ended : {before after : List ℕ} (a x : ℕ) {at p n : ℕ} → n ≡ 32 → at ≡ p → RunPut before after at (bits before at a x) n
    → RunPut before after p (bits before p a x) 32
ended a x e f h = rw (e, f) at h

returns : tie.Need-returns invariant-loop decreases-loop
returns c =
    let s = c in
    column-put 32 _ s.requires.0 s.requires.1 s.requires.2
    (ended _ _ (omega arith) c.place-at.ensures.0 c.loop-b.invariant.1)

pub put_column_spec : {M : Type 1} → statement M
put_column_spec =
    tie.close
    (tie.spec
    invariant-loop
    decreases-loop
    (λ c κs. search rules)
    loop-holds
    (λ c. search rules)
    (λ c. search rules)
    (λ c. search rules)
    (λ c κs. search rules)
    (λ c. search rules)
    (λ c. search rules)
    (λ c. search rules)
    (λ c. search rules)
    (λ c. search rules)
    loop-again
    returns)
