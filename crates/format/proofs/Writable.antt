-- What the writer writes in a version is read back, and what was read is written back in its own version.
use mathlib.Core.Bool.{Bool, true, false}
use mathlib.Core.List.{List}
use mathlib.Core.Path.{◌≡◌, refl, sym, ◌∙◌, ap}
use Prim.Native.Nat.{ℕ, ◌≤◌, ◌<◌}
use native.Mathlib.Omega.{arith}
use lib.Dec.{ltb}
use lib.ListN.{length, get_or}
use borrow.Author.Tests.{le-leb, leb-true, ltb-true, ltb-false}
use Rattle.bounded.proofs.Bool.{by_cases, clash, not-true→false, implies-i, implies-e, implies-false}
use Rattle.bounded.specs.Fold.{some}
use Rattle.bounded.proofs.Fold.{every-i, every-e, some-e, some-cong}
use Rattle.words.specs.Word.{has, word}
use Rattle.words.proofs.Laws.{has_word, has-zero, nonempty, word_lt}
use Rattle.network.specs.Network.{Network}
use Rattle.network.specs.Sound.{Sound}
use Rattle.network.specs.Sheet.{Sheet, network_of, sheet_of}
use Rattle.format.specs.Layout.{Layout, longest, largest_size, version2, Lookup, found, unknown, layout_of}
use Rattle.format.specs.Parse.{Octets, got, parse}
use Rattle.format.specs.Print.{print_in}
use Rattle.format.specs.WellFormed.{WellFormed}
use Rattle.format.specs.Writable.{fits_version, rows_are_filled, no_blank_row, filled_in, rows_pass}
use Rattle.format.proofs.Layouts.{found-again, found-usable, found-or-unknown}
use Rattle.format.proofs.Lengths.{largest-sheet}
use Rattle.format.proofs.Parse.{row-of-fine, fine-row}
use Rattle.format.proofs.RoundTrip.{parsed, parse-of-print}
use Rattle.format.proofs.SheetOf.{Takes, sheet_of-wellformed, wellformed-sound, wellformed-n, wellformed-size, wellformed-takes, wellformed-sheet_of}

-- "an unknown version"
pub unknown-unfit : (N : Network) → fits_version unknown N ≡ false
unfolding fits_version
unknown-unfit N = refl

module _ (L : Layout) (N : Network) where
  pub sizes_fit : ((i : ℕ) → i < N.n → N.size i ≤ L.values_at_most) → fits_version (found L) N ≡ true
  unfolding fits_version
  sizes_fit h = every-i N.n _ (λ i l. le-leb _ _ (h i l))

  fits-size : fits_version (found L) N ≡ true → (i : ℕ) → i < N.n → N.size i ≤ L.values_at_most
  unfolding fits_version
  fits-size h i l = leb-true _ _ (every-e N.n _ h i l)

  -- "or a size above 16 in version 1"
  pub size-unfit : (i : ℕ) → i < N.n → L.values_at_most < N.size i → fits_version (found L) N ≡ false
  size-unfit i l h = not-true→false _ (λ t. let x : ⊥ = omega (arith, fits-size t i l) in x)

-- A word is not zero where some of its bits is set.
some_word : (w : ℕ) (p : ℕ → Bool) → some w p ≡ true → 1 ≤ word w p
some_word w p h =
    by_cases (ltb 0 (word w p))
    (λ t. ltb-true _ _ t)
    (λ t. some-e w p h (λ k l q.
    let e : word w p ≡ 0 = omega (arith, ltb-false 0 (word w p) t) in
    clash q (sym (has_word w p k l) ∙ ap (λ (x : ℕ). has x k) e ∙ has-zero k)))

word_some : (w : ℕ) (p : ℕ → Bool) → 1 ≤ word w p → some w p ≡ true
word_some w p h = some-cong w p (has (word w p)) (λ k l. sym (has_word w p k l)) ∙ nonempty w (word w p) (word_lt w p) (λ e. omega arith)

module _ (N : Network) where
  -- No stated pair has an all-zero row for its lower variable.
  abbrev pub Filled : Type 0
  Filled = (i j a : ℕ) → i < j → j < N.n → N.stated i j ≡ true → a < N.size i → some (N.size j) (N.allows i j a) ≡ true

  pub rows_filled : Filled → no_blank_row N ≡ true
  unfolding no_blank_row rows_are_filled
  rows_filled h =
      every-i N.n _ (λ j m. every-i j _ (λ i l. implies-i _ _ (λ t. every-i (N.size i) _ (λ a b. h i j a l m t b))))

  filled-rows : no_blank_row N ≡ true → Filled
  unfolding no_blank_row rows_are_filled
  filled-rows h i j a l m t b = every-e (N.size i) _ (implies-e _ _ (every-e j _ (every-e N.n _ h j m) i l) t) a b

  pub blank-unfilled : (i j a : ℕ) → i < j → j < N.n → N.stated i j ≡ true → a < N.size i → some (N.size j) (N.allows i j a) ≡ false
      → no_blank_row N ≡ false
  blank-unfilled i j a l m t b e = not-true→false _ (λ h. clash (filled-rows h i j a l m t b) e)

-- "Versions 1 and 2 go on allowing it."
pub plain-pass : (k : Lookup) → filled_in k ≡ false → (N : Network) → rows_pass k N ≡ true
unfolding rows_pass
plain-pass k h N = implies-false _ _ h

module _ (L : Layout) (N : Network) (S : Sound N) where
  -- What passes both tests is what the layout takes.
  takes-of-tests : fits_version (found L) N ≡ true → rows_pass (found L) N ≡ true → Takes L N
  unfolding rows_pass filled_in
  takes-of-tests h g =
      record {
        sizes_taken = λ i.
            by_cases (ltb i N.n)
            (λ t. fits-size L N h i (ltb-true _ _ t))
            (λ t. omega (arith, S.size_past i (ltb-false _ _ t)));
        rows_taken = λ i j a l t b.
            fine-row L.filled _ _ (word_lt _ _) (λ f.
            some_word _ _ (filled-rows N (implies-e _ _ g f) i j a l (S.stated_in i j t).1 t b));
      }

  tests-of-takes : Takes L N → (fits_version (found L) N ≡ true) × (rows_pass (found L) N ≡ true)
  unfolding rows_pass filled_in
  tests-of-takes T = (
    sizes_fit L N (λ i _. T.sizes_taken i),
    implies-i _ _ (λ f. rows_filled N (λ i j a l m t b. word_some _ _ ((row-of-fine L.filled _ _ (T.rows_taken i j a l t b)).1 f))),
  )

-- Every network of sizes to 32 may be written in version 2.
pub version2-fits : (N : Network) → ((i : ℕ) → N.size i ≤ largest_size) → fits_version (found version2) N ≡ true
unfolding version2
version2-fits N h = sizes_fit version2 N (λ i _. h i)

module _ (N : Network) (S : Sound N) (v : ℕ) (h : fits_version (layout_of v) N ≡ true) (g : rows_pass (layout_of v) N ≡ true) where
  -- What passes the tests of a version has a layout that takes it,
  pub fits-takes : (L : Layout) × (layout_of v ≡ found L) × Takes L N
  fits-takes =
      found-or-unknown (layout_of v)
      (λ e. clash (rw e at h) (unknown-unfit N))
      (λ L e. (L, e, takes-of-tests L N S (rw e at h) (rw e at g)))

  module _ (few : N.n ≤ 16) where
    pub written-wellformed : (L : Layout) × (layout_of v ≡ found L) × WellFormed L (sheet_of N)
    written-wellformed = let (L, e, T) = fits-takes in (L, e, sheet_of-wellformed L (found-usable v L e) N S few T)

    -- is written in no more bytes than the limit,
    pub written-most : length (print_in (layout_of v) (sheet_of N)) ≤ longest
    unfolding print_in
    written-most = let (L, e, w) = written-wellformed in rw e (largest-sheet L (sheet_of N) w (found-usable v L e))

    -- and is read back as it was written: "both round trips hold for each version".
    pub parse-of-written : parse (print_in (layout_of v) (sheet_of N)) ≡ got (sheet_of N) (length (print_in (layout_of v) (sheet_of N)))
    unfolding print_in
    parse-of-written = let (L, e, w) = written-wellformed in rw e (parse-of-print L (found-again v L e) (sheet_of N) w)

-- What was read passes the tests of its own version, and is written in it as the bytes that it was read from.
module _ (bytes : List ℕ) (octets : Octets bytes) (s : Sheet) (end : ℕ) (e : parse bytes ≡ got s end) where
  pub read_fits : (fits_version (layout_of (get_or bytes 0 0)) (network_of s) ≡ true) × (rows_pass (layout_of (get_or bytes 0 0)) (network_of s) ≡ true)
  read_fits =
      let R = parsed bytes octets s end e in
      let w = R.body.well_formed in
      rw R.layout_found
      (tests-of-takes R.layout (network_of s) (wellformed-sound R.layout R.usable s w) (wellformed-takes R.layout R.usable s w))

  pub written-of-parse : print_in (layout_of (get_or bytes 0 0)) (sheet_of (network_of s)) ≡ bytes
  unfolding print_in
  written-of-parse =
      let R = parsed bytes octets s end e in
      rw (R.layout_found, wellformed-sheet_of R.layout R.usable s R.body.well_formed) R.printed

  -- It may be written in any version whose tests it passes, and is read back as the same sheet:
  pub rewritten : (v : ℕ) → fits_version (layout_of v) (network_of s) ≡ true → rows_pass (layout_of v) (network_of s) ≡ true
      → parse (print_in (layout_of v) s) ≡ got s (length (print_in (layout_of v) s))
  rewritten v h g =
      let R = parsed bytes octets s end e in
      let w = R.body.well_formed in
      rw (wellformed-sheet_of R.layout R.usable s w) at
      (parse-of-written (network_of s) (wellformed-sound R.layout R.usable s w) v h g (wellformed-n R.layout R.usable s w))

  -- version 2 is one of those.
  pub read-fits-version2 : fits_version (found version2) (network_of s) ≡ true
  read-fits-version2 =
      let R = parsed bytes octets s end e in
      version2-fits (network_of s) (wellformed-size R.layout R.usable s R.body.well_formed)
