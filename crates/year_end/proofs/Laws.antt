-- Lines from arrays.
use mathlib.Core.List.{List, []}
use mathlib.Core.Path.{◌≡◌, sym, ◌∙◌, ap}
use Prim.Native.Nat.{ℕ, suc, ◌+◌, ◌-◌}
use native.Mathlib.Numerals.{add-one}
use native.Mathlib.Omega.{arith}
use lib.ListN.{get_or}
use borrow.Author.Tests.{eq-eqb, ne_eqb}
use Rattle.bounded.proofs.Bool.{if-true, if-false}
use Rattle.bins.specs.Bins.{Place}
use Rattle.bins_counts.specs.Counts.{spot, plus}
use Rattle.text_put.specs.Put.{Put, each}
use Rattle.text_put.proofs.Laws.{put-text, put_then}
use Rattle.year_text.specs.Lines.{line_of_bin, short_entries, entries_line, end_line}
use Rattle.year_end.specs.End.{each_bin, short_text}
use Rattle.year_end.specs.Arrays.{bin_of, short_of_array, counts_by}

pub bin-put : {a b : List ℕ} {at r : ℕ} (sizes opened ins outs counts : List ℕ) (o v i x y z w : ℕ) → i ≡ spot sizes o v
    → x ≡ get_or opened i 0 → y ≡ get_or ins i 0 → z ≡ get_or outs i 0 → w ≡ get_or counts i 0
    → Put a b (line_of_bin (o + 1) v x y z w) at r → Put a b (bin_of sizes opened ins outs counts (suc o, v)) at r
unfolding bin_of
bin-put sizes opened ins outs counts o v i x y z w h p q s t k =
    let e : suc o - 1 ≡ o = omega arith in
    put-text (rw (add-one, p, q, s, t, h, e)) k

-- The texts of all values, and of all variables.
pub same-each : {a b : List ℕ} {at r : ℕ} (text : ℕ → List ℕ) (m n : ℕ) → m ≡ n → Put a b (each text m) at r → Put a b (each text n) at r
same-each text m n e h = put-text (ap (each text) e) h

pub all-bins : {a b : List ℕ} {at r : ℕ} (n : ℕ) (sizes : List ℕ) (text : Place → List ℕ)
    → Put a b (each (λ (o : ℕ). each (λ (v : ℕ). text (suc o, v)) (get_or sizes o 0)) n) at r → Put a b (each_bin n sizes text) at r
unfolding each_bin
all-bins n sizes text h = h

pub short_none : (sizes shorts : List ℕ) (o v i k : ℕ) → i ≡ spot sizes o v → k ≡ get_or shorts i 0 → k ≡ 0 → short_of_array sizes shorts (suc o, v) ≡ []
unfolding short_of_array short_text
short_none sizes shorts o v i k h p z =
    let e : suc o - 1 ≡ o = omega arith in
    rw e (if-true _ _ _ (eq-eqb _ 0 (ap (λ (j : ℕ). get_or shorts j 0) (sym h) ∙ sym p ∙ z)))

pub short-some : {a b : List ℕ} {at r : ℕ} (sizes shorts : List ℕ) (o v i k : ℕ) → i ≡ spot sizes o v → k ≡ get_or shorts i 0 → (k ≡ 0 → ⊥)
    → Put a b (short_entries (o + 1) v k) at r → Put a b (short_of_array sizes shorts (suc o, v)) at r
unfolding short_of_array short_text
short-some sizes shorts o v i k h p d m =
    let e : suc o - 1 ≡ o = omega arith in
    put-text (rw (add-one, e) (rw (p, h) (sym (if-false _ _ _ (ne_eqb _ 0 (λ z. d (p ∙ ap (λ (j : ℕ). get_or shorts j 0) h ∙ z))))))) m

pub counts-put : {x y z : List ℕ} {at mid r : ℕ} (ok r28 r29 text a b c d all refused : ℕ) → a ≡ ok → b ≡ r28 → c ≡ r29 → d ≡ text
    → all ≡ plus (plus (plus text r29) r28) ok → refused ≡ plus (plus text r29) r28
    → Put x y (entries_line a b c d all) at mid → Put y z (end_line refused) mid r → Put x z (counts_by ok r28 r29 text) at r
unfolding counts_by
counts-put ok r28 r29 text a b c d all refused e f g h i j k l = put-text (rw (e, f, g, h, i, j)) (put_then k l)
