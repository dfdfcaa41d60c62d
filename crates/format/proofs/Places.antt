-- The places that the parser names lie within the bytes: "Places are byte numbers counted from 0." Its causes are those of a file's own fields, to number 26.
use mathlib.Core.Bool.{Bool, true, false}
use mathlib.Core.List.{List}
use mathlib.Core.Path.{◌≡◌, subst}
use Prim.Native.Nat.{ℕ, zero, suc, ◌+◌, ◌≤◌}
use native.Mathlib.Omega.{arith}
use lib.Dec.{ltb}
use lib.ListN.{length, get_or}
use borrow.Author.Tests.{ltb-false}
use Rattle.bounded.specs.Bool.{if}
use Rattle.bounded.proofs.Bool.{by_cases, if-true, if-false}
use Rattle.cause.specs.declared.Cause.{Cause}
use Rattle.cause.specs.declared.Cause.TheVariants.{Length, Version, Extent}
use Rattle.cause.specs.Number.{number_of}
use Rattle.network.specs.Sheet.{Sheet}
use Rattle.format.specs.Layout.{Layout, Test, fine, fault, count_test, size_test, constraints_test, pair_test, row_test, longest, layout_of}
use Rattle.format.specs.Parse.{Parse, got, bad, bind, judged, field, many, fields, parse_table, parse_tables, ended, parse_body, wrong_length, parse}
use Rattle.format.proofs.Layouts.{found-or-unknown}
use Rattle.format.proofs.Parse.{length-fits, parse-wrong-length, parse-wrong-version, parse-is-body}

-- The cause of a test is none after 26.
data Early : Test → Type 0 where
  fine_early : Early fine
  fault_early : {c : Cause} → number_of c ≤ 26 → Early (fault c)

if-early : (b : Bool) {t u : Test} → Early t → Early u → Early (if b t u)
unfolding if
if-early true x y = x
if-early false x y = y

count-early : (n : ℕ) → Early (count_test n)
unfolding count_test
count-early n = if-early _ (fault_early (omega arith)) fine_early

size-early : (most size : ℕ) → Early (size_test most size)
unfolding size_test
size-early most size = if-early _ (fault_early (omega arith)) fine_early

constraints-early : (n p : ℕ) → Early (constraints_test n p)
unfolding constraints_test
constraints-early n p = if-early _ (fault_early (omega arith)) fine_early

pair-early : (n previous pair : ℕ) → Early (pair_test n previous pair)
unfolding pair_test
pair-early n previous pair =
    if-early _ (fault_early (omega arith)) (if-early _ (fault_early (omega arith)) (if-early _ (fault_early (omega arith)) fine_early))

row-early : (filled : Bool) (size row : ℕ) → Early (row_test filled size row)
unfolding row_test
row-early filled size row = if-early _ (fault_early (omega arith)) (if-early _ (fault_early (omega arith)) fine_early)

-- The place after what was got, or the place of the fault, is at most m.
pub data Within {A : Type 0} (m : ℕ) : Parse A → Type 0 where
  got_within : {x : A} {next : ℕ} → next ≤ m → Within m (got x next)
  bad_within : {c : Cause} {at : ℕ} → at ≤ m → number_of c ≤ 26 → Within m (bad c at)

within-less : {A : Type 0} {m n : ℕ} {p : Parse A} → m ≤ n → Within m p → Within n p
within-less l (got_within {next = next} h) = got_within {next = next} (omega arith)
within-less l (bad_within {at = at} h c) = bad_within {at = at} (omega arith) c

of_bad : {A : Type 0} {m : ℕ} {c : Cause} {at : ℕ} → Within {A = A} m (bad c at) → (at ≤ m) × (number_of c ≤ 26)
of_bad (bad_within h c) = (h, c)

bind-within : {A B : Type 0} {m : ℕ} (f : A → ℕ → Parse B) {p : Parse A} → Within m p
    → ((x : A) (next : ℕ) → next ≤ m → Within m (f x next)) → Within m (bind p f)
unfolding bind
bind-within f (got_within h) k = k _ _ h
bind-within f (bad_within h c) k = bad_within h c

judged-within : {t : Test} → Early t → (v at k m : ℕ) → at + k ≤ m → Within m (judged t v at k)
unfolding judged
judged-within fine_early v at k m h = got_within h
judged-within (fault_early c) v at k m h = bad_within {at = at} (omega arith) c

module _ (bytes : List ℕ) where
  field-within : (k : ℕ) {test : ℕ → Test} → ((v : ℕ) → Early (test v)) → (at : ℕ) → at ≤ length bytes → Within (length bytes) (field k test bytes at)
  unfolding field
  field-within k early at h =
      by_cases (ltb (length bytes) (at + k))
      (λ t. rw (if-true _ _ _ t) (bad_within {c = Extent} h (omega arith)))
      (λ t. rw (if-false _ _ _ t) (judged-within (early _) _ at k (length bytes) (ltb-false _ _ t)))

  many-within : {S A : Type 0} (step : S → A → S) (item : S → List ℕ → ℕ → Parse A)
      → ((s : S) (at : ℕ) → at ≤ length bytes → Within (length bytes) (item s bytes at))
      → (count : ℕ) (s : S) (at : ℕ) → at ≤ length bytes → Within (length bytes) (many step item count s bytes at)
  unfolding many
  many-within step item each zero s at h = got_within h
  many-within step item each (suc count) s at h =
      bind-within _ (each s at h) (λ x next l. bind-within _ (many-within step item each count (step s x) next l) (λ xs end k. got_within k))

  fields_within : (k : ℕ) {test : ℕ → Test} → ((v : ℕ) → Early (test v)) → (count at : ℕ) → at ≤ length bytes
      → Within (length bytes) (fields k test count bytes at)
  unfolding fields
  fields_within k early count at h = many-within _ _ (λ s next l. field-within k early next l) count 0 at h

  table-within : (L : Layout) (sizes : List ℕ) (previous at : ℕ) → at ≤ length bytes → Within (length bytes) (parse_table L sizes previous bytes at)
  unfolding parse_table
  table-within L sizes previous at h =
      bind-within _ (field-within 2 (pair-early _ previous) at h) (λ pair next l.
      bind-within _ (fields_within L.bytes_per_row (row-early L.filled _) _ next l) (λ rows end k. got_within k))

  ended-within : (s : Sheet) (at : ℕ) → at ≤ length bytes → Within (length bytes) (ended s bytes at)
  unfolding ended
  ended-within s at h =
      by_cases (ltb at (length bytes)) (λ t. rw (if-true _ _ _ t) (bad_within {c = Extent} h (omega arith))) (λ t. rw (if-false _ _ _ t) (got_within h))

  body-within : (L : Layout) → 3 ≤ length bytes → Within (length bytes) (parse_body L bytes)
  unfolding parse_body parse_tables
  body-within L h =
      bind-within _ (field-within 1 count-early 3 h) (λ n next l.
      bind-within _ (fields_within 1 (size-early L.values_at_most) n next l) (λ sizes next l.
      bind-within _ (field-within 1 (constraints-early n) next l) (λ p next l.
      bind-within _ (many-within _ _ (λ s at k. table-within L sizes s at k) p 0 next l) (λ tables next l.
      ended-within _ next l))))

  parse-within : Within longest (parse bytes)
  parse-within =
      by_cases (wrong_length bytes)
      (λ t. rw (parse-wrong-length bytes t) (bad_within {c = Length} {at = 0} (omega arith) (omega arith)))
      (λ t. found-or-unknown (layout_of (get_or bytes 0 0))
      (λ v. rw (parse-wrong-version bytes t v) (bad_within {c = Version} {at = 0} (omega arith) (omega arith)))
      (λ L v. let F = length-fits bytes t in
      rw (parse-is-body bytes t L v) (within-less F.not_too_long (body-within L F.at_least_three))))

  -- The place of a refusal is within the largest sheet.
  pub refused-place : {c : Cause} {at : ℕ} → parse bytes ≡ bad c at → at ≤ longest
  refused-place e = (of_bad (subst (Within longest) e parse-within)).0

  -- Its number is one of the file's fields.
  pub refused-number : {c : Cause} {at : ℕ} → parse bytes ≡ bad c at → number_of c ≤ 26
  refused-number e = (of_bad (subst (Within longest) e parse-within)).1
