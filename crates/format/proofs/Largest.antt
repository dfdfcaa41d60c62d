-- A layout has a sheet of as many bytes as its largest may have: 16 variables of the most values, with a table for each pair that allows everything.
use mathlib.Core.Bool.{true}
use mathlib.Core.List.{List, ◌∷◌}
use mathlib.Core.Path.{◌≡◌, refl, sym, ◌∙◌, ap}
use Prim.Native.Nat.{ℕ, ◌+◌, ◌-◌, ◌*◌, ◌^◌, ◌≤◌, ◌<◌}
use native.Mathlib.Nat.{suc-mul}
use native.Mathlib.Omega.{arith}
use lib.Dec.{eqb, ltb}
use lib.ListN.{length, length-append}
use lib.Pow.{pow_pos, pow_mono}
use borrow.Author.Tests.{lt-ltb, le-ltb, ne_eqb, ltb-true, ltb-false, eqb-false}
use Rattle.bounded.specs.Bool.{and, not, if}
use Rattle.bounded.specs.Table.{tabulate}
use Rattle.bounded.proofs.Bool.{by_cases, bool-ext, not-true→false, and_i, and_l, and_r, not-i, not-e, if-true, if-false}
use Rattle.bounded.proofs.Table.{length-tabulate}
use Rattle.words.specs.Word.{word}
use Rattle.words.proofs.Laws.{has-full, is_word}
use Rattle.network.specs.Network.{Network}
use Rattle.network.specs.Sound.{Sound}
use Rattle.network.specs.Sheet.{Table, Sheet, collect, table_of, sheet_of}
use Rattle.format.specs.Layout.{Layout, longest, largest_in, version1, version2, version3}
use Rattle.format.specs.Print.{bytes_of, print_all, print_table, print_body, print}
use Rattle.format.specs.WellFormed.{All, none, more, WellFormed}
use Rattle.format.proofs.Layouts.{Usable}
use Rattle.format.proofs.Lengths.{length-rows}
use Rattle.format.proofs.Parse.{fine-row}
use Rattle.format.proofs.SheetOf.{Takes, sheet_of-wellformed, tables-all}

-- Items of m bytes each.
length-each : {A : Type 0} (print : A → List ℕ) (m : ℕ) {xs : List A} → All (λ (x : A). length (print x) ≡ m) xs
    → length (print_all print xs) ≡ length xs * m
unfolding print_all
length-each print m none = omega arith
length-each print m (more {x = x} {xs = xs} h hs) =
    omega (arith, length-append (print x) (print_all print xs), length-each print m hs, suc-mul (length xs) m)

module _ (m : ℕ) where
  full : Network
  full =
      record {
        n = 16;
        size = λ (i : ℕ). if (ltb i 16) m 0;
        domain = λ (i a : ℕ). ltb a (if (ltb i 16) m 0);
        leader = λ (i : ℕ). 0;
        stated = λ (i j : ℕ). and (and (ltb i 16) (ltb j 16)) (not (eqb i j));
        allows = λ (i j a b : ℕ). and (and (and (ltb i 16) (ltb j 16)) (not (eqb i j))) (and (ltb a m) (ltb b m));
      }

  full_size : (i : ℕ) → i < 16 → full.size i ≡ m
  unfolding full
  full_size i l = if-true _ _ _ (lt-ltb i 16 l)

  full-past : (i : ℕ) → 16 ≤ i → full.size i ≡ 0
  unfolding full
  full-past i l = if-false _ _ _ (le-ltb i 16 l)

  full-most : (i : ℕ) → full.size i ≤ m
  full-most i =
      by_cases (ltb i 16)
      (λ t. omega (arith, full_size i (ltb-true i 16 t)))
      (λ t. omega (arith, full-past i (ltb-false i 16 t)))

  full-stated : (i j : ℕ) → full.stated i j ≡ true → (i < 16) × (j < 16) × (i ≡ j → ⊥)
  unfolding full
  full-stated i j h = (
    ltb-true _ _ (and_l _ _ (and_l _ _ h)),
    ltb-true _ _ (and_r _ _ (and_l _ _ h)),
    eqb-false _ _ (not-e _ (and_r _ _ h)),
  )

  full-states : (i j : ℕ) → (i < 16) × (j < 16) × (i ≡ j → ⊥) → full.stated i j ≡ true
  unfolding full
  full-states i j (l, k, d) = and_i _ _ (and_i _ _ (lt-ltb i 16 l) (lt-ltb j 16 k)) (not-i _ (ne_eqb i j d))

  full-turned : (i j : ℕ) → full.stated i j ≡ true → full.stated j i ≡ true
  full-turned i j h = let (l, k, d) = full-stated i j h in full-states j i (k, l, λ e. d (sym e))

  full-allowed : (i j a b : ℕ) → full.allows i j a b ≡ true → (full.stated i j ≡ true) × (a < m) × (b < m)
  unfolding full
  full-allowed i j a b h = (and_l _ _ h, ltb-true _ _ (and_l _ _ (and_r _ _ h)), ltb-true _ _ (and_r _ _ (and_r _ _ h)))

  full-allows : (i j a b : ℕ) → full.stated i j ≡ true → a < m → b < m → full.allows i j a b ≡ true
  unfolding full
  full-allows i j a b h l k = and_i _ _ h (and_i _ _ (lt-ltb _ _ l) (lt-ltb _ _ k))

  full-alike : (i j a b : ℕ) → full.allows i j a b ≡ true → full.allows j i b a ≡ true
  full-alike i j a b h = let (t, l, k) = full-allowed i j a b h in full-allows j i b a (full-turned i j t) k l

  full-sound : 1 ≤ m → Sound full
  unfolding full
  full-sound some =
      record {
        some_variable = omega arith;
        sizes = λ i l. omega (arith, full_size i l);
        size_past = full-past;
        domain_in = λ i a h. ltb-true _ _ h;
        leader_past = λ i h. refl;
        stated_in = λ i j h. let (l, k, d) = full-stated i j h in (l, k);
        no_self = λ i. not-true→false _ (λ h. (full-stated i i h).2 refl);
        stated_sym = λ i j. bool-ext _ _ (full-turned i j) (full-turned j i);
        allows_stated = λ i j a b h. (full-allowed i j a b h).0;
        allows_in = λ i j a b h.
            let (t, l, k) = full-allowed i j a b h in
            let (x, y, d) = full-stated i j t in
            (omega (arith, full_size i x), omega (arith, full_size j y));
        allows_sym = λ i j a b. bool-ext _ _ (full-alike i j a b) (full-alike j i b a);
        leader_free = λ i l e. absurd (let x : ⊥ = omega arith in x);
        follower_stated = λ i l e. absurd (let x : ⊥ = omega arith in x);
        follower_only = λ i l k e. absurd (let x : ⊥ = omega arith in x);
        follower_one = λ i l a e. absurd (let x : ⊥ = omega arith in x);
        follower_trimmed = λ i l b e. absurd (let x : ⊥ = omega arith in x);
      }

  -- One table for each of the 120 pairs.
  full-tables : length (sheet_of full).tables ≡ 120
  unfolding full and not if collect table_of sheet_of
  full-tables = refl

  full-sizes : length (sheet_of full).sizes ≡ 16
  unfolding full tabulate sheet_of
  full-sizes = refl

  -- A row has all values.
  full-row : (i j a : ℕ) → full.stated i j ≡ true → a < full.size i → word (full.size j) (full.allows i j a) ≡ 2 ^ full.size j - 1
  full-row i j a t l =
      let (x, y, d) = full-stated i j t in
      sym (is_word (full.size j) (2 ^ full.size j - 1) _ (omega (arith, pow_pos (full.size j))) (λ b k.
      has-full (full.size j) b ∙ lt-ltb _ _ k
      ∙ sym (full-allows i j a b t (omega (arith, full_size i x)) (omega (arith, full_size j y)))))

module _ (L : Layout) (U : Usable L) where
  full-taken : Takes L (full L.values_at_most)
  full-taken =
      let m = L.values_at_most in
      record {
        sizes_taken = full-most m;
        rows_taken = λ i j a _ t l.
            let (x, y, d) = full-stated m i j t in
            let some = pow_mono (let e : 1 ≤ (full m).size j = omega (arith, full_size m j y, U.some_value) in e) in
            rw (full-row m i j a t l) (fine-row _ _ _ (omega (arith, some)) (λ _. omega (arith, some)));
      }

  full-bytes : length (print L (sheet_of (full L.values_at_most))) ≡ largest_in L
  unfolding print print_body print_table bytes_of largest_in
  full-bytes =
      let m = L.values_at_most in
      let s = sheet_of (full m) in
      let each = tables-all (full m) {P = λ (t : Table). length (print_table L t) ≡ 2 + L.bytes_per_row * m} (λ i j _ _ t.
      let (x, y, d) = full-stated m i j t in
      omega (
        arith,
        length-rows L.bytes_per_row (tabulate ((full m).size i) (λ (a : ℕ). word ((full m).size j) ((full m).allows i j a))),
        ap (λ (k : ℕ). L.bytes_per_row * k) (length-tabulate ((full m).size i) (λ (a : ℕ). word ((full m).size j) ((full m).allows i j a)) ∙ full_size m i x),
      )) in
      omega (
        arith,
        length-append s.sizes (length s.tables ∷ print_all (print_table L) s.tables),
        full-sizes m,
        length-each (print_table L) (2 + L.bytes_per_row * m) each,
        ap (λ (k : ℕ). k * (2 + L.bytes_per_row * m)) (full-tables m),
      )

  -- "The largest sheet": as many bytes are reached.
  pub largest-reached : (s : Sheet) × WellFormed L s × (length (print L s) ≡ largest_in L)
  largest-reached = (
    sheet_of (full L.values_at_most),
    sheet_of-wellformed L U (full L.values_at_most) (full-sound _ U.some_value) (unfold full in omega arith) full-taken,
    full-bytes,
  )

-- "The largest sheet has 4,101 bytes": of version 1.
pub largest-version1 : largest_in version1 ≡ 4101
unfolding largest_in version1
largest-version1 = refl

-- "The largest version 2 sheet has 15,621 bytes, which is the limit in number 1".
pub largest-version2 : (largest_in version2 ≡ longest) × (longest ≡ 15621)
unfolding largest_in version2 longest
largest-version2 = (refl, refl)

-- "Version 3 is laid out like version 2"
pub largest-version3 : largest_in version3 ≡ longest
unfolding largest_in version3 longest
largest-version3 = refl
