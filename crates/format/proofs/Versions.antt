-- What a new version leaves as it was.
use mathlib.Core.List.{List, [], ◌∷◌, ◌++◌}
use mathlib.Core.Path.{◌≡◌, refl, sym, ◌∙◌, ap}
use Prim.Native.Nat.{ℕ, ◌≤◌, ◌<◌}
use native.Mathlib.Omega.{arith}
use lib.ListN.{length, get_or}
use borrow.Author.Tests.{lt-ltb, le-ltb, ne_eqb}
use Rattle.bounded.proofs.Bool.{or_l, or_r, if-true, if-false}
use Rattle.cause.specs.declared.Cause.TheVariants.{Length, Extent}
use Rattle.network.specs.Sheet.{Sheet}
use Rattle.format.specs.Layout.{Layout, longest, largest_in, version1, version2, version3, layouts, found, unknown, layout_among, layout_of}
use Rattle.format.specs.Parse.{Octets, got, bad, wrong_under, parse_under, parse}
use Rattle.format.specs.Print.{print_body, print}
use Rattle.format.specs.WellFormed.{All, none, more, WellFormed}
use Rattle.format.proofs.Layouts.{version1-found}
use Rattle.format.proofs.Lengths.{within-largest}
use Rattle.format.proofs.RoundTrip.{framed, parsed, left_over}

module _ (v : ℕ) where
  -- The version of a layout is another.
  abbrev Other : Layout → Type 0
  Other L = v ≡ L.version → ⊥

  none-among : {Ls : List Layout} → All Other Ls → layout_among Ls v ≡ unknown
  unfolding layout_among
  none-among none = refl
  none-among (more h hs) = if-false _ _ _ (ne_eqb _ _ h) ∙ none-among hs

  -- More layouts change the look-up of their own versions alone.
  with-more : (Ks : List Layout) {Ls : List Layout} → All Other Ls → layout_among (Ks ++ Ls) v ≡ layout_among Ks v
  unfolding layout_among
  with-more [] h = none-among h
  with-more (K ∷ Ks) h = rw (with-more Ks h)

module _ (bytes : List ℕ) where
  -- Bytes within two limits, with one look-up of their version among two lists, are parsed alike.
  same-parse : {limit most : ℕ} (Ks Ls : List Layout) → length bytes ≤ limit → length bytes ≤ most
      → layout_among Ks (get_or bytes 0 0) ≡ layout_among Ls (get_or bytes 0 0)
      → parse_under limit Ks bytes ≡ parse_under most Ls bytes
  unfolding parse_under wrong_under
  same-parse Ks Ls h k e = rw (le-ltb _ _ h, le-ltb _ _ k, e)

  too_long : (limit : ℕ) (Ls : List Layout) → limit < length bytes → parse_under limit Ls bytes ≡ bad Length 0
  unfolding parse_under wrong_under
  too_long limit Ls h = if-true _ _ _ (or_r _ _ (or_l _ _ (lt-ltb _ _ h)))

  -- "A version 1 sheet gives the state it gave before, number for number": up to the limit of before the parser is that of before, which knew version 1 alone.
  pub as-before-version2 : length bytes ≤ 4101 → (get_or bytes 0 0 ≡ 2 → ⊥) → (get_or bytes 0 0 ≡ 3 → ⊥)
      → parse bytes ≡ parse_under 4101 (version1 ∷ []) bytes
  unfolding parse layouts version2 version3 longest
  as-before-version2 h two three = same-parse _ _ (omega arith) h (with-more _ (version1 ∷ []) (more two (more three none)))

  -- "Versions 1 and 2 go on allowing it": where the version is not 3 the parser is that of before, which knew versions 1 and 2.
  pub as-before-version3 : (get_or bytes 0 0 ≡ 3 → ⊥) → parse bytes ≡ parse_under longest (version1 ∷ version2 ∷ []) bytes
  unfolding parse parse_under layouts version3
  as-before-version3 three = rw (with-more (get_or bytes 0 0) (version1 ∷ version2 ∷ []) {Ls = version3 ∷ []} (more three none))

  -- Longer bytes were refused for their length.
  pub long-before : 4101 < length bytes → parse_under 4101 (version1 ∷ []) bytes ≡ bad Length 0
  long-before = too_long 4101 (version1 ∷ [])

  -- They are still never accepted: no sheet is longer than the largest of its version.
  pub too-long-for-version : Octets bytes → (L : Layout) → layout_of (get_or bytes 0 0) ≡ found L → largest_in L < length bytes
      → (s : Sheet) (end : ℕ) → parse bytes ≡ got s end → ⊥
  too-long-for-version octets L v h s end e =
      let R = parsed bytes octets s end e in
      let same : found R.layout ≡ found L = sym R.layout_found ∙ v in
      let K : R.layout ≡ L = cc in
      omega (arith, rw (R.printed, K) at (within-largest R.layout s R.body.well_formed))

-- A largest version 1 sheet with one byte more, counted, is 6 at 4,101 now.
pub largest-and-one : (s : Sheet) → WellFormed version1 s → length (print version1 s) ≡ 4101 → (x : ℕ)
    → parse (framed 1 (print_body version1 s ++ (x ∷ []))) ≡ bad Extent 4101
unfolding version1 longest
largest-and-one s w e x = left_over version1 (version1-found 1 refl) s w (x ∷ []) (omega arith) (omega arith) ∙ ap (bad Extent) e
