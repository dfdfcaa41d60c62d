-- The lines of the end that are written from what is kept are those of the year.
use mathlib.Core.List.{List, [], ◌++◌}
use mathlib.Core.Path.{◌≡◌, refl, sym, ap, ◌∙◌}
use Prim.Native.Nat.{ℕ, zero, suc, ◌+◌, ◌-◌, ◌≤◌, ◌<◌, ◌^◌}
use native.Mathlib.Omega.{arith}
use lib.ListN.{length, get_or}
use Rattle.bins.specs.declared.Bin.{Bin}
use Rattle.bins.specs.Bins.{Place, no_bin}
use Rattle.bins_counts.specs.Counts.{spot, plus}
use Rattle.bins_counts.proofs.Bins.{bin_at}
use Rattle.bins_counts.proofs.Changed.{plus-is}
use Rattle.state.specs.declared.state.State.{State}
use Rattle.stock.specs.Stock.{bins_of}
use Rattle.text_put.specs.Put.{each}
use Rattle.year_text.specs.Lines.{line_of_bin, entries_line, end_line}
use Rattle.year_entries.specs.Year.{Told, Year, answered, faulty, short_of, tally, first_short}
use Rattle.year_act.specs.declared.Entries.{Entries}
use Rattle.year_act.specs.Kept.{Kept}
use Rattle.year_act.proofs.Sums.{tally-le}
use Rattle.year_end.specs.End.{each_bin, count_there, bin_text, bins_text, first_text, short_text, shorts_text, counts_text, rest_text, end_text}
use Rattle.year_end.specs.Arrays.{at, bin_of, short_of_array, counts_by, rest_by}
use Rattle.year_balance.proofs.Balance.{count_at}

each-cong : (f g : ℕ → List ℕ) (n : ℕ) → ((k : ℕ) → k < n → f k ≡ g k) → each f n ≡ each g n
unfolding each
each-cong f g zero h = refl
each-cong f g (suc n) h = λ i. each-cong f g n (λ k l. h k (omega (arith, l))) i ++ h n (omega arith) i

each-bin : (n : ℕ) (sizes : List ℕ) (f g : Place → List ℕ) → ((o v : ℕ) → o < n → v < get_or sizes o 0 → f (suc o, v) ≡ g (suc o, v)) → each_bin n sizes f ≡ each_bin n sizes g
unfolding each_bin
each-bin n sizes f g h = each-cong _ _ n (λ o l. each-cong (λ (v : ℕ). f (suc o, v)) (λ (v : ℕ). g (suc o, v)) (get_or sizes o 0) (λ v b. h o v l b))

module _ (s : State) (opening : List ℕ) (y : Year) (counts ins outs shorts : List ℕ) (e : Entries) (K : Kept s y counts ins outs shorts e) where
  index : (xs : List ℕ) (o v : ℕ) → at s.sizes xs (suc o, v) ≡ get_or xs (spot s.sizes o v) 0
  index xs o v = let q : suc o - 1 ≡ o = omega arith in ap (λ (k : ℕ). get_or xs (spot s.sizes k v) 0) q

  count_of : (xs : List ℕ) (o v : ℕ) → o < s.n → v < get_or s.sizes o 0 → at s.sizes xs (suc o, v) ≡ count_there (bins_of s xs) (suc o, v)
  count_of xs o v l b = index xs o v ∙ sym (count_at s xs (bins_of s xs) refl o v l b ∙ ap (λ (x : Bin). x.count) (bin_at s.n s.sizes o v l b xs))

  bin_line : (o v : ℕ) → o < s.n → v < get_or s.sizes o 0
      → bin_of s.sizes opening ins outs counts (suc o, v) ≡ bin_text (bins_of s opening) y.bins y.told (suc o, v)
  unfolding bin_of bin_text
  bin_line o v l b = λ i.
      line_of_bin (suc o) v (count_of opening o v l b i) ((index ins o v ∙ K.ins_are o v l b) i) ((index outs o v ∙ K.outs_are o v l b) i)
      ((count_of counts o v l b ∙ ap (λ (bs : List Bin). count_there bs (suc o, v)) K.bins_are) i)

  -- The lines of the bins,
  pub bins-text : each_bin s.n s.sizes (bin_of s.sizes opening ins outs counts) ≡ bins_text s (bins_of s opening) y
  unfolding bins_text
  bins-text = each-bin s.n s.sizes _ _ bin_line

  short-line : (o v : ℕ) → o < s.n → v < get_or s.sizes o 0 → short_of_array s.sizes shorts (suc o, v) ≡ short_text (suc o, v) (tally (short_of (suc o, v)) y.told)
  unfolding short_of_array
  short-line o v l b = ap (short_text (suc o, v)) (index shorts o v ∙ K.shorts_are o v l b)

  shorts-text : each_bin s.n s.sizes (short_of_array s.sizes shorts) ≡ shorts_text s y.told
  unfolding shorts_text
  shorts-text = each-bin s.n s.sizes _ _ short-line

  few : length y.told ≤ 4294967296
  few = omega (arith, K.told_most, K.line_most)

  refused : plus (plus e.text e.r29) e.r28 ≡ e.r28 + (e.r29 + e.text)
  refused =
      let a = tally-le (answered 28) y.told in
      let b = tally-le (answered 29) y.told in
      let c = tally-le faulty y.told in
      let inner : plus e.text e.r29 ≡ e.r29 + e.text = plus-is e.text e.r29 (omega (arith, K.r29_is, K.text_is, b, c, few)) in
      ap (λ (k : ℕ). plus k e.r28) inner ∙ plus-is (e.r29 + e.text) e.r28 (omega (arith, K.r28_is, K.r29_is, K.text_is, a, b, c, few))

  all : plus (plus (plus e.text e.r29) e.r28) e.ok ≡ e.ok + (e.r28 + (e.r29 + e.text))
  all =
      let a = tally-le (answered 0) y.told in
      ap (λ (k : ℕ). plus k e.ok) refused
      ∙ plus-is (e.r28 + (e.r29 + e.text)) e.ok (omega (arith, K.ok_is, K.r28_is, K.r29_is, K.text_is, K.all_is, few))

  counts-text : counts_by e.ok e.r28 e.r29 e.text
      ≡ counts_text (tally (answered 0) y.told) (tally (answered 28) y.told) (tally (answered 29) y.told) (tally faulty y.told)
  unfolding counts_by counts_text
  counts-text =
      (λ i. entries_line e.ok e.r28 e.r29 e.text (all i) ++ end_line (refused i))
      ∙ (λ i. counts_text (K.ok_is i) (K.r28_is i) (K.r29_is i) (K.text_is i))

  -- and the rest.
  pub rest-text : rest_by s.n s.sizes shorts e.first e.ok e.r28 e.r29 e.text ≡ rest_text s y.told
  unfolding rest_by rest_text
  rest-text = λ i. first_text (K.r29_is i) (K.first_is i) ++ (shorts-text i ++ counts-text i)

  -- "every line that counts is an entry": e = k + x + y + t.
  pub all_told : tally (answered 0) y.told + (tally (answered 28) y.told + (tally (answered 29) y.told + tally faulty y.told)) ≡ length y.told
  all_told = omega (arith, K.all_is)
