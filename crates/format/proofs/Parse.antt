-- The parser's pieces: one law for each case, and what holds of whatever a piece gets.
use mathlib.Core.Bool.{Bool, true, false}
use mathlib.Core.List.{List, ◌∷◌}
use mathlib.Core.Path.{◌≡◌, refl, sym, ◌∙◌, subst}
use Prim.Native.Nat.{ℕ, suc, ◌+◌, ◌-◌, ◌*◌, ◌/◌, ◌≤◌, ◌<◌, ◌^◌}
use native.Mathlib.Omega.{arith}
use lib.Dec.{eqb, ltb}
use lib.ListN.{length, get_or}
use lib.Pow.{pow_pos}
use borrow.Author.Tests.{lt-ltb, le-ltb, eq-eqb, ne_eqb, lt-leb, le-leb, ltb-true, ltb-false, leb-false, eqb-true, eqb-false}
use Rattle.bounded.specs.Bool.{or, if}
use Rattle.bounded.proofs.Bool.{by_cases, not-true→false, and_i, and_l, and_r, and-holds, or_l, or_r, or-false-l, or-false-r, or-false-i, not-false-e, not-false-i, if-true, if-false}
use Rattle.cause.specs.declared.Cause.{Cause}
use Rattle.cause.specs.declared.Cause.TheVariants.{Length, Version, Extent, RowRange, BlankRow}
use Rattle.format.specs.Layout.{Layout, Test, fine, fault, count_test, size_test, constraints_test, row_test, longest, found, unknown, layout_of}
use Rattle.format.specs.Parse.{Parse, got, bad, bind, number_at, judged, field, many, parse_body, wrong_under, parse_in, parse_under, wrong_length, parse}

-- P holds of the value and of the place after it, if the parser gets one.
pub data Where {A : Type 0} (P : A → ℕ → Type 0) : Parse A → Type 0 where
  of_got : {x : A} {next : ℕ} → P x next → Where P (got x next)
  of_bad : {c : Cause} {at : ℕ} → Where P (bad c at)

module _ {A : Type 0} (P : A → ℕ → Type 0) where
  of-this : {x : A} {next : ℕ} → Where P (got x next) → P x next
  of-this (of_got h) = h

  pub holds-of-got : (p : Parse A) {x : A} {next : ℕ} → Where P p → p ≡ got x next → P x next
  holds-of-got p w e = of-this (subst (Where P) e w)

pub where-map : {A : Type 0} {P Q : A → ℕ → Type 0} {p : Parse A} → Where P p → ((x : A) (next : ℕ) → P x next → Q x next) → Where Q p
where-map (of_got h) k = of_got (k _ _ h)
where-map of_bad k = of_bad

module _ {A B : Type 0} (f : A → ℕ → Parse B) where
  pub bind-got : (p : Parse A) {x : A} {next : ℕ} → p ≡ got x next → bind p f ≡ f x next
  unfolding bind
  bind-got p e = rw e

  pub bind-where : {P : A → ℕ → Type 0} {Q : B → ℕ → Type 0} {p : Parse A} → Where P p
      → ((x : A) (next : ℕ) → P x next → Where Q (f x next))
      → Where Q (bind p f)
  unfolding bind
  bind-where (of_got h) k = k _ _ h
  bind-where of_bad k = of_bad

-- A field: cut off, at fault, or fine.
module _ (k : ℕ) (test : ℕ → Test) (bytes : List ℕ) (at : ℕ) where
  pub field-cut-off : length bytes < at + k → field k test bytes at ≡ bad Extent at
  unfolding field
  field-cut-off h = if-true _ _ _ (lt-ltb _ _ h)

  pub field-fault : at + k ≤ length bytes → {c : Cause} → test (number_at k bytes at) ≡ fault c → field k test bytes at ≡ bad c at
  unfolding field judged
  field-fault h t = if-false _ _ _ (le-ltb _ _ h) ∙ rw t

  pub field-fine : at + k ≤ length bytes → test (number_at k bytes at) ≡ fine → field k test bytes at ≡ got (number_at k bytes at) (at + k)
  unfolding field judged
  field-fine h t = if-false _ _ _ (le-ltb _ _ h) ∙ rw t

  -- What a field gets is the number there, it passes the test, and it lies within the bytes.
  pub record Field (v next : ℕ) : Type 0 where
    pub number : v ≡ number_at k bytes at
    pub next_place : next ≡ at + k
    pub within : at + k ≤ length bytes
    pub passes : test v ≡ fine

  judged-where : at + k ≤ length bytes → (t : Test) → test (number_at k bytes at) ≡ t → Where Field (field k test bytes at)
  judged-where h fine e = rw (field-fine h e) (of_got (record { number = refl; next_place = refl; within = h; passes = e }))
  judged-where h (fault c) e = rw (field-fault h e) of_bad

  pub field-where : Where Field (field k test bytes at)
  field-where =
      by_cases (ltb (length bytes) (at + k))
      (λ t. rw (field-cut-off (ltb-true _ _ t)) of_bad)
      (λ t. judged-where (ltb-false _ _ t) (test (number_at k bytes at)) refl)

-- Items in a row.
module _ {S A : Type 0} (step : S → A → S) (item : S → List ℕ → ℕ → Parse A) (s : S) (bytes : List ℕ) (at : ℕ) where
  pub many-suc : (k : ℕ) → many step item (suc k) s bytes at
      ≡ bind (item s bytes at) (λ x next. bind (many step item k (step s x) bytes next) (λ xs end. got (x ∷ xs) end))
  unfolding many
  many-suc k = refl

  pub many-got : (k : ℕ) {x : A} {next : ℕ} {xs : List A} {end : ℕ} → item s bytes at ≡ got x next
      → many step item k (step s x) bytes next ≡ got xs end
      → many step item (suc k) s bytes at ≡ got (x ∷ xs) end
  many-got k e h = many-suc k ∙ bind-got _ _ e ∙ bind-got _ _ h

-- The tests, to and from the facts that they are of.
fine-unless : (b : Bool) (c : Cause) (t : Test) → if b (fault c) t ≡ fine → (b ≡ false) × (t ≡ fine)
unfolding if
fine-unless true c t h = absurd (let z : ◌≡◌ {A = ℕ} 0 1 = cc in let x : ⊥ = omega arith in x)
fine-unless false c t h = (refl, h)

fine-within : (c : Cause) (most n : ℕ) → if (or (eqb n 0) (ltb most n)) (fault c) fine ≡ fine → (1 ≤ n) × (n ≤ most)
fine-within c most n h =
    let b = (fine-unless _ _ _ h).0 in
    (omega (arith, eqb-false n 0 (or-false-l _ _ b)), ltb-false most n (or-false-r _ _ b))

within-fine : (c : Cause) (most n : ℕ) → 1 ≤ n → n ≤ most → if (or (eqb n 0) (ltb most n)) (fault c) fine ≡ fine
within-fine c most n h k = if-false _ _ _ (or-false-i _ _ (ne_eqb n 0 (omega arith)) (le-ltb most n k))

pub count-of-fine : (n : ℕ) → count_test n ≡ fine → (1 ≤ n) × (n ≤ 16)
unfolding count_test
count-of-fine n h = fine-within _ 16 n h

pub fine-count : (n : ℕ) → 1 ≤ n → n ≤ 16 → count_test n ≡ fine
unfolding count_test
fine-count n h k = within-fine _ 16 n h k

pub size-of-fine : (most size : ℕ) → size_test most size ≡ fine → (1 ≤ size) × (size ≤ most)
unfolding size_test
size-of-fine most size h = fine-within _ most size h

pub fine-size : (most size : ℕ) → 1 ≤ size → size ≤ most → size_test most size ≡ fine
unfolding size_test
fine-size most size h k = within-fine _ most size h k

pub constraints-of-fine : (n p : ℕ) → constraints_test n p ≡ fine → p ≤ n * (n - 1) / 2
unfolding constraints_test
constraints-of-fine n p h = ltb-false _ p (fine-unless _ _ _ h).0

pub fine-constraints : (n p : ℕ) → p ≤ n * (n - 1) / 2 → constraints_test n p ≡ fine
unfolding constraints_test
fine-constraints n p h = if-false _ _ _ (le-ltb _ p h)

module _ (filled : Bool) (size row : ℕ) where
  pub row-of-fine : row_test filled size row ≡ fine → (row < 2 ^ size) × (filled ≡ true → 1 ≤ row)
  unfolding row_test
  row-of-fine h =
      let (within, rest) = fine-unless _ _ _ h in (
        leb-false _ _ within,
        λ t. let x = eqb-false row 0 (sym (and-holds _ _ t) ∙ (fine-unless _ _ _ rest).0) in omega (arith, x),
      )

  -- A row below 2 to the size passes, where such rows are banned if it is not all-zero.
  pub fine-row : row < 2 ^ size → (filled ≡ true → 1 ≤ row) → row_test filled size row ≡ fine
  unfolding row_test
  fine-row h some =
      if-false _ _ _ (lt-leb _ _ h)
      ∙ if-false _ _ _ (not-true→false _ (λ t. let x : ⊥ = omega (arith, some (and_l _ _ t), eqb-true row 0 (and_r _ _ t)) in x))

  pub row_out : 2 ^ size ≤ row → row_test filled size row ≡ fault RowRange
  unfolding row_test
  row_out h = if-true _ _ _ (le-leb _ _ h)

  pub row-blank : filled ≡ true → row ≡ 0 → row_test filled size row ≡ fault BlankRow
  unfolding row_test
  row-blank t e =
      let low : row < 2 ^ size = omega (arith, pow_pos size) in
      if-false _ _ _ (lt-leb _ _ low) ∙ if-true _ _ _ (and_i _ _ t (eq-eqb row 0 e))

-- The length of the bytes, and byte 0.
pub record LengthFits (bytes : List ℕ) : Type 0 where
  pub at_least_three : 3 ≤ length bytes
  pub not_too_long : length bytes ≤ longest
  pub as_counted : length bytes ≡ 3 + number_at 2 bytes 1

module _ (bytes : List ℕ) where
  pub length-fits : wrong_length bytes ≡ false → LengthFits bytes
  unfolding wrong_length wrong_under
  length-fits h =
      record {
        at_least_three = ltb-false _ _ (or-false-l _ _ h);
        not_too_long = ltb-false _ _ (or-false-l _ _ (or-false-r _ _ h));
        as_counted = eqb-true _ _ (not-false-e _ (or-false-r _ _ (or-false-r _ _ h)));
      }

  pub right-length : LengthFits bytes → wrong_length bytes ≡ false
  unfolding wrong_length wrong_under
  right-length h =
      or-false-i _ _ (le-ltb _ _ h.at_least_three)
      (or-false-i _ _ (le-ltb _ _ h.not_too_long) (not-false-i _ (eq-eqb _ _ h.as_counted)))

  pub parse-wrong-length : wrong_length bytes ≡ true → parse bytes ≡ bad Length 0
  unfolding parse parse_under wrong_length
  parse-wrong-length h = if-true _ _ _ h

  -- Longer bytes are refused whatever their version.
  pub parse-too-long : longest < length bytes → parse bytes ≡ bad Length 0
  unfolding wrong_length wrong_under
  parse-too-long h = parse-wrong-length (or_r _ _ (or_l _ _ (lt-ltb _ _ h)))

  pub parse-wrong-version : wrong_length bytes ≡ false → layout_of (get_or bytes 0 0) ≡ unknown → parse bytes ≡ bad Version 0
  unfolding parse parse_under wrong_length layout_of parse_in
  parse-wrong-version h v = if-false _ _ _ h ∙ rw v

  pub parse-is-body : wrong_length bytes ≡ false → (L : Layout) → layout_of (get_or bytes 0 0) ≡ found L → parse bytes ≡ parse_body L bytes
  unfolding parse parse_under wrong_length layout_of parse_in
  parse-is-body h L v = if-false _ _ _ h ∙ rw v
