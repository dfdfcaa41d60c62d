-- Version 3 beside version 2: "Version 3 is laid out like version 2 and forbids an all-zero row."
use mathlib.Core.Bool.{Bool, true, false}
use mathlib.Core.List.{List, ◌∷◌, ◌++◌}
use mathlib.Core.Path.{◌≡◌, refl, sym, ◌∙◌, ap}
use Prim.Native.Nat.{ℕ, zero, suc, ◌+◌, ◌^◌, ◌≤◌}
use native.Mathlib.Omega.{arith}
use lib.Dec.{leb, eqb, ltb}
use lib.ListN.{length, get_or}
use Rattle.bounded.specs.Bool.{and, if}
use Rattle.bounded.proofs.Bool.{by_cases, implies-i, implies-e}
use Rattle.cause.specs.declared.Cause.{Cause}
use Rattle.cause.specs.declared.Cause.TheVariants.{BlankRow}
use Rattle.network.specs.Sheet.{Sheet, network_of}
use Rattle.format.specs.Layout.{Layout, Test, fine, fault, row_test, version2, version3, found}
use Rattle.format.specs.Parse.{Octets, Parse, got, bad, bind, number_at, judged, field, many, fields, parse_table, parse_tables, ended, parse_body, wrong_under, wrong_length, parse}
use Rattle.format.proofs.Layouts.{version2-found, version3-found}
use Rattle.format.specs.Print.{bytes_of, print_table, print_body, print, print_in}
use Rattle.format.specs.Writable.{no_blank_row, filled_in, rows_pass}
use Rattle.format.proofs.RoundTrip.{parsed}
use Rattle.format.proofs.SheetOf.{wellformed-size}
use Rattle.format.proofs.Writable.{sizes_fit, read_fits, rewritten}
use Rattle.format.proofs.Parse.{parse-wrong-length, parse-is-body}

-- The first parse is the second one, or is 26. What is got ends past byte 0.
pub data Stricter {A : Type 0} : Parse A → Parse A → Type 0 where
  both_get : {x : A} {next : ℕ} → 1 ≤ next → Stricter (got x next) (got x next)
  both_refuse : {c : Cause} {at : ℕ} → Stricter (bad c at) (bad c at)
  is_blank : {at : ℕ} {p : Parse A} → Stricter (bad BlankRow at) p

bind-stricter : {A B : Type 0} {p q : Parse A} (f g : A → ℕ → Parse B) → Stricter p q
    → ((x : A) (next : ℕ) → 1 ≤ next → Stricter (f x next) (g x next)) → Stricter (bind p f) (bind q g)
unfolding bind
bind-stricter f g (both_get l) k = k _ _ l
bind-stricter f g both_refuse k = both_refuse
bind-stricter f g is_blank k = is_blank

-- A test before two parses: it refuses both, or neither.
unless-stricter : {A : Type 0} (b : Bool) (c : Cause) (at : ℕ) {p q : Parse A} → Stricter p q → Stricter (if b (bad c at) p) (if b (bad c at) q)
unfolding if
unless-stricter true c at h = both_refuse
unless-stricter false c at h = h

-- The answer of a test is that of another, or is 26.
data Bans : Test → Test → Type 0 where
  same : {t : Test} → Bans t t
  blank : {t : Test} → Bans (fault BlankRow) t

judged-stricter : {t u : Test} → Bans t u → (v at k : ℕ) → 1 ≤ at → Stricter (judged t v at k) (judged u v at k)
unfolding judged
judged-stricter (same {t = fine}) v at k l = let after : 1 ≤ at + k = omega arith in both_get after
judged-stricter (same {t = fault c}) v at k l = both_refuse
judged-stricter blank v at k l = is_blank

row-bans : (filled : Bool) (size row : ℕ) → Bans (row_test filled size row) (row_test false size row)
unfolding row_test and if
row-bans true size row =
    by_cases (leb (2 ^ size) row)
    (λ t. rw t same)
    (λ t. rw t (by_cases (eqb row 0) (λ z. rw z blank) (λ z. rw z same)))
row-bans false size row = same

-- Two lists of bytes that differ at byte 0 alone.
pub record Alike (bytes others : List ℕ) : Type 0 where
  pub same_length : length bytes ≡ length others
  pub same_byte : (k : ℕ) → 1 ≤ k → get_or bytes k 0 ≡ get_or others k 0

module _ (bytes others : List ℕ) (alike : Alike bytes others) where
  number-alike : (k at : ℕ) → 1 ≤ at → number_at k bytes at ≡ number_at k others at
  unfolding number_at
  number-alike zero at l = refl
  number-alike (suc k) at l = rw (alike.same_byte at l, number-alike k (suc at) (omega arith))

  field-stricter : (k : ℕ) {test plain : ℕ → Test} → ((v : ℕ) → Bans (test v) (plain v)) → (at : ℕ) → 1 ≤ at
      → Stricter (field k test bytes at) (field k plain others at)
  unfolding field
  field-stricter k ban at l =
      rw (← alike.same_length, ← number-alike k at l)
      (unless-stricter (ltb (length bytes) (at + k)) _ _ (judged-stricter (ban (number_at k bytes at)) (number_at k bytes at) at k l))

  many-stricter : {S A : Type 0} (step : S → A → S) (item plain : S → List ℕ → ℕ → Parse A)
      → ((s : S) (at : ℕ) → 1 ≤ at → Stricter (item s bytes at) (plain s others at))
      → (count : ℕ) (s : S) (at : ℕ) → 1 ≤ at → Stricter (many step item count s bytes at) (many step plain count s others at)
  unfolding many
  many-stricter step item plain h zero s at l = both_get l
  many-stricter step item plain h (suc count) s at l =
      bind-stricter _ _ (h s at l) (λ x next m.
      bind-stricter _ _ (many-stricter step item plain h count (step s x) next m) (λ xs end e. both_get e))

  fields-stricter : (k : ℕ) {test plain : ℕ → Test} → ((v : ℕ) → Bans (test v) (plain v)) → (count at : ℕ) → 1 ≤ at
      → Stricter (fields k test count bytes at) (fields k plain count others at)
  unfolding fields
  fields-stricter k ban count at l = many-stricter _ _ _ (λ s next m. field-stricter k ban next m) count 0 at l

  -- A layout beside one with its bytes and sizes that bans nothing.
  module _ (v w row most : ℕ) (filled : Bool) where
    abbrev banning : Layout
    banning = record { version = v; bytes_per_row = row; values_at_most = most; filled = filled }

    abbrev allowing : Layout
    allowing = record { version = w; bytes_per_row = row; values_at_most = most; filled = false }

    table-stricter : (sizes : List ℕ) (previous at : ℕ) → 1 ≤ at
        → Stricter (parse_table banning sizes previous bytes at) (parse_table allowing sizes previous others at)
    unfolding parse_table
    table-stricter sizes previous at l =
        bind-stricter _ _ (field-stricter 2 (λ v. same) at l) (λ pair next m.
        bind-stricter _ _ (fields-stricter row (row-bans filled _) _ next m) (λ rows end e. both_get e))

    ended-stricter : (s : Sheet) (at : ℕ) → 1 ≤ at → Stricter (ended s bytes at) (ended s others at)
    unfolding ended
    ended-stricter s at l = rw (← alike.same_length) (unless-stricter (ltb at (length bytes)) _ _ (both_get l))

    pub body-stricter : Stricter (parse_body banning bytes) (parse_body allowing others)
    unfolding parse_body parse_tables
    body-stricter =
        bind-stricter _ _ (field-stricter 1 (λ v. same) 3 (omega arith)) (λ n next a.
        bind-stricter _ _ (fields-stricter 1 (λ v. same) n next a) (λ sizes next b.
        bind-stricter _ _ (field-stricter 1 (λ v. same) next b) (λ p next c.
        bind-stricter _ _ (many-stricter _ _ _ (λ previous at l. table-stricter sizes previous at l) p 0 next c) (λ tables next d.
        ended-stricter (record { sizes = sizes; tables = tables }) next d))))

  length-alike : wrong_length bytes ≡ wrong_length others
  unfolding wrong_length wrong_under
  length-alike = rw (alike.same_length, number-alike 2 1 (omega arith))

past_first : (rest : List ℕ) (k : ℕ) → 1 ≤ k → get_or (3 ∷ rest) k 0 ≡ get_or (2 ∷ rest) k 0
past_first rest zero l = absurd (let x : ⊥ = omega arith in x)
past_first rest (suc k) l = refl

-- What is read in version 3 is what is read of the same bytes in version 2, or is 26.
pub blank-or-same : (rest : List ℕ) → Stricter (parse (3 ∷ rest)) (parse (2 ∷ rest))
unfolding version2 version3
blank-or-same rest =
    let alike : Alike (3 ∷ rest) (2 ∷ rest) = record { same_length = refl; same_byte = past_first rest } in
    by_cases (wrong_length (3 ∷ rest))
    (λ t. rw (parse-wrong-length (3 ∷ rest) t, parse-wrong-length (2 ∷ rest) (sym (length-alike (3 ∷ rest) (2 ∷ rest) alike) ∙ t)) both_refuse)
    (λ t. rw (
      parse-is-body (3 ∷ rest) t version3 (version3-found 3 refl),
      parse-is-body (2 ∷ rest) (sym (length-alike (3 ∷ rest) (2 ∷ rest) alike) ∙ t) version2 (version2-found 2 refl),
    ) (body-stricter (3 ∷ rest) (2 ∷ rest) alike 3 2 4 32 true))

-- The same sheet has the same bytes past byte 0.
print-beside : (s : Sheet) (rest : List ℕ) → print version2 s ≡ 2 ∷ rest → print version3 s ≡ 3 ∷ rest
unfolding print print_body print_table version2 version3
print-beside s rest e =
    let body = print_body version2 s in
    let past : bytes_of 2 (length body) ++ body ≡ rest = cc in
    ap (λ (bytes : List ℕ). 3 ∷ bytes) past

-- Of what version 2 accepts, version 3 accepts exactly what has no all-zero row.
module _ (rest : List ℕ) (s : Sheet) (end : ℕ) where
  pub filled-of-accepted : Octets (3 ∷ rest) → parse (3 ∷ rest) ≡ got s end → no_blank_row (network_of s) ≡ true
  unfolding rows_pass filled_in version3
  filled-of-accepted octets e = implies-e _ _ (rw (version3-found 3 refl) at (read_fits (3 ∷ rest) octets s end e).1) refl

  pub accepted-of-filled : Octets (2 ∷ rest) → parse (2 ∷ rest) ≡ got s end → no_blank_row (network_of s) ≡ true
      → parse (3 ∷ rest) ≡ got s (length (3 ∷ rest))
  unfolding print_in rows_pass filled_in version3
  accepted-of-filled octets e filled =
      let R = parsed (2 ∷ rest) octets s end e in
      let same : found R.layout ≡ found version2 = sym R.layout_found ∙ version2-found 2 refl in
      let L : R.layout ≡ version2 = cc in
      let printed : print version3 s ≡ 3 ∷ rest = print-beside s rest (rw L at R.printed) in
      let three = version3-found 3 refl in
      let small = wellformed-size R.layout R.usable s R.body.well_formed in
      rw (three, printed) at
      (rewritten (2 ∷ rest) octets s end e 3
      (rw three (sizes_fit version3 (network_of s) (λ i _. small i)))
      (rw three (implies-i _ _ (λ _. filled))))
