-- Laws of one field: what its bytes and its own test make of it, as the functions that read a field are asked for it.
use mathlib.Core.Bool.{Bool, true, false, ◌&&◌, ◌||◌, not as negated}
use mathlib.Core.List.{List}
use mathlib.Core.Path.{◌≡◌, refl, sym, ◌∙◌, ap, fun_ext}
use Prim.Native.Nat.{ℕ, ◌+◌, ◌-◌, ◌*◌, ◌/◌, ◌%◌, ◌^◌, ◌≤◌, ◌<◌}
use native.Mathlib.Omega.{arith}
use lib.Dec.{eqb, ltb, leb}
use lib.ListN.{length}
use borrow.Author.Tests.{lt-ltb, le-ltb, le-leb, eq-eqb, ltb-true, ltb-false, leb-true, eqb-true, eqb-false}
use Rattle.bounded.specs.Bool.{and, or, implies, not, if}
use Rattle.bounded.specs.Fold.{every}
use Rattle.bounded.proofs.Bool.{by_cases, bool-ext, machine-and, clash, and_i, and_l, and_r, and-holds, if-true, if-false, not-i, not-false-i, or_l, or_r, or-false-l, or-false-r}
use Rattle.words.specs.Word.{has}
use Rattle.words.proofs.Laws.{within-every}
use Rattle.cause.specs.declared.Cause.{Cause}
use Rattle.cause.specs.declared.Cause.TheVariants.{VariableCount, Size, ConstraintCount, PairRange, PairOrder, PairRepeated, RowRange, BlankRow, Extent}
use Rattle.std.specs.Prelude.{Result, Ok, Err}
use Rattle.cause.specs.declared.Refusal.{Refusal}
use Rattle.read_field.specs.declared.field.Field.{Field}
use Rattle.format.specs.Layout.{Test, fine, fault, count_test, size_test, constraints_test, out_of_range, pair_test, row_test, longest}
use Rattle.format.specs.Parse.{Parse, got, bad, bind, number_at, judged, field, wrong_under, wrong_length}
use Rattle.format.proofs.Parse.{fine-row, row_out, row-blank}
use Rattle.format.proofs.Pairs.{pair-of-fine, fine-pair}
use Rattle.read_field.specs.Fields.{read_as, read_of, range_test, Decides}

-- ---- any parse that came to an answer

pub read-got : {p : Parse ℕ} {r : Result Field Refusal} {field : Field} → p ≡ read_of r → r ≡ Ok field → p ≡ got field.value field.next
unfolding read_of
read-got e q = e ∙ ap read_of q

pub read-bad : {p : Parse ℕ} {r : Result Field Refusal} {refusal : Refusal} → p ≡ read_of r → r ≡ Err refusal → p ≡ bad refusal.cause refusal.place
unfolding read_of
read-bad e q = e ∙ ap read_of q

pub as-got : {A : Type 0} (p : Parse A) (r : Result Field Refusal) (x : A) (field : Field) → p ≡ read_as r x → r ≡ Ok field → p ≡ got x field.next
unfolding read_as
as-got p r x field e q = e ∙ ap (λ r. read_as r x) q

pub as-bad : {A : Type 0} (p : Parse A) (r : Result Field Refusal) (x : A) (refusal : Refusal) → p ≡ read_as r x → r ≡ Err refusal
    → p ≡ bad refusal.cause refusal.place
unfolding read_as
as-bad p r x refusal e q = e ∙ ap (λ r. read_as r x) q

-- No answer is both a value and a refusal.
pub no_value : {A : Type 0} (refusal : Refusal) (field : Field) → ◌≡◌ {A = Result Field Refusal} (Err refusal) (Ok field) → A
no_value refusal field q = absurd (let z : ◌≡◌ {A = ℕ} 0 1 = cc in let x : ⊥ = omega arith in x)

-- What came of one parser and then another came of both.
pub bind-got : {A B C : Type 0} {p : Parse A} {f : A → ℕ → Parse B} {y : B} {end : ℕ} → bind p f ≡ got y end
    → ((x : A) (next : ℕ) → p ≡ got x next → f x next ≡ got y end → C) → C
unfolding bind
bind-got {p = got x next} e k = k x next refl e
bind-got {p = bad c at} e k = absurd (let z : ◌≡◌ {A = ℕ} 0 1 = cc in let x : ⊥ = omega arith in x)

-- An answer of which something is made.
pub bind-as : {A B : Type 0} (r : Result Field Refusal) (x : A) (f : A → B) → bind (read_as r x) (λ y end. got (f y) end) ≡ read_as r (f x)
unfolding bind read_as
bind-as (Ok field) x f = refl
bind-as (Err refusal) x f = refl

-- ---- any field

pub record FieldGot (k : ℕ) (test : ℕ → Test) (bytes : List ℕ) (at v next : ℕ) : Type 0 where
  pub value : v ≡ number_at k bytes at
  pub passed : test v ≡ fine
  pub ends : next ≡ at + k
  pub inside : next ≤ length bytes

module _ (k : ℕ) (test : ℕ → Test) (bytes : List ℕ) (at : ℕ) where
  pub field_cut : length bytes < at + k → field k test bytes at ≡ read_of (Err (record { cause = Extent; place = at }))
  unfolding field read_of
  field_cut h = if-true _ _ _ (lt-ltb _ _ h)

  pub field-fault : {v : ℕ} {c : Cause} → v ≡ number_at k bytes at → at + k ≤ length bytes → test v ≡ fault c
      → field k test bytes at ≡ read_of (Err (record { cause = c; place = at }))
  unfolding field judged read_of
  field-fault e h t = rw (le-ltb _ _ h, ← e, t) (if-false false _ _ refl)

  pub field-fine : {v next : ℕ} → v ≡ number_at k bytes at → next ≡ at + k → next ≤ length bytes → test v ≡ fine
      → field k test bytes at ≡ read_of (Ok (record { value = v; next = next }))
  unfolding field judged read_of
  field-fine e p h t = rw (p, le-ltb (length bytes) (at + k) (rw p at h), ← e, t) (if-false false _ _ refl)

judged-got : (t : Test) (v at k : ℕ) {u next : ℕ} → judged t v at k ≡ got u next → (t ≡ fine) × (v ≡ u) × (at + k ≡ next)
unfolding judged
judged-got fine v at k e = (refl, cc, cc)
judged-got (fault c) v at k e = absurd (let z : ◌≡◌ {A = ℕ} 0 1 = cc in let x : ⊥ = omega arith in x)

-- A field that was parsed is the number in its bytes, passed its test, and ends within the bytes.
pub field-got : {k : ℕ} {test : ℕ → Test} {bytes : List ℕ} {at v next : ℕ} → field k test bytes at ≡ got v next → FieldGot k test bytes at v next
unfolding field read_of
field-got {k} {test} {bytes} {at} e =
    by_cases (ltb (length bytes) (at + k))
    (λ t. absurd (let z : ◌≡◌ {A = ℕ} 0 1 = cc (field_cut k test bytes at (ltb-true _ _ t)) in let x : ⊥ = omega arith in x))
    (λ t.
    let j = judged-got _ _ at k (sym (if-false _ _ _ t) ∙ e) in
    record {
      value = sym j.1;
      passed = ap test (sym j.1) ∙ j.0;
      ends = sym j.2;
      inside = omega (arith, ltb-false (length bytes) (at + k) t, j.2);
    })

-- ---- the tests

or-machine : (a b : Bool) → a || b ≡ or a b
unfolding or
or-machine true b = refl
or-machine false b = refl

pub range-fault : (least most v : ℕ) {c : Cause} → ltb v least || ltb most v ≡ true → range_test least most c v ≡ fault c
unfolding range_test
range-fault least most v h = if-true _ _ _ (sym (or-machine _ _) ∙ h)

pub range-fine : (least most v : ℕ) (c : Cause) → ltb v least || ltb most v ≡ false → range_test least most c v ≡ fine
unfolding range_test
range-fine least most v c h = if-false _ _ _ (sym (or-machine _ _) ∙ h)

-- The four faults of a pair's range, as the machine joins them.
four-machine : (a b c d : Bool) → or (or a b) (or c d) ≡ a || b || c || d
unfolding or
four-machine true b c d = refl
four-machine false true c d = refl
four-machine false false true d = refl
four-machine false false false d = refl

-- The four tests that it passes.
four-and : (a b c d : Bool) → a && b && c && d ≡ and a (and b (and c d))
unfolding and
four-and true true true d = refl
four-and true true false d = refl
four-and true false c d = refl
four-and false b c d = refl

module _ (n previous pair : ℕ) where
  range-machine : out_of_range n pair ≡ eqb (pair / 256) 0 || eqb (pair % 256) 0 || ltb n (pair / 256) || ltb n (pair % 256)
  unfolding out_of_range
  range-machine = simp four-machine

  pub pair-range : eqb (pair / 256) 0 || eqb (pair % 256) 0 || ltb n (pair / 256) || ltb n (pair % 256) ≡ true
      → pair_test n previous pair ≡ fault PairRange
  unfolding out_of_range pair_test
  pair-range h = if-true _ _ _ (range-machine ∙ h)

  module _ (h : eqb (pair / 256) 0 || eqb (pair % 256) 0 || ltb n (pair / 256) || ltb n (pair % 256) ≡ false) where
    pub pair-order : pair % 256 ≤ pair / 256 → pair_test n previous pair ≡ fault PairOrder
    unfolding out_of_range pair_test
    pair-order o = if-false _ _ _ (range-machine ∙ h) ∙ if-true _ _ _ (not-i _ (le-ltb _ _ o))

    pub pair-repeated : pair / 256 < pair % 256 → pair ≤ previous → pair_test n previous pair ≡ fault PairRepeated
    unfolding out_of_range pair_test
    pair-repeated o r =
        if-false _ _ _ (range-machine ∙ h) ∙ if-false _ _ _ (not-false-i _ (lt-ltb _ _ o)) ∙ if-true _ _ _ (not-i _ (le-ltb _ _ r))

    pub pair-fine : pair / 256 < pair % 256 → previous < pair → pair_test n previous pair ≡ fine
    unfolding out_of_range pair_test
    pair-fine o r =
        if-false _ _ _ (range-machine ∙ h) ∙ if-false _ _ _ (not-false-i _ (lt-ltb _ _ o)) ∙ if-false _ _ _ (not-false-i _ (lt-ltb _ _ r))

  -- The four tests that a pair passes, as the machine joins them.
  pub pair-decided : Decides (ltb 0 (pair / 256) && ltb (pair / 256) (pair % 256) && leb (pair % 256) n && ltb previous pair) (pair_test n previous pair ≡ fine)
  pair-decided =
      let m = four-and (ltb 0 (pair / 256)) (ltb (pair / 256) (pair % 256)) (leb (pair % 256) n) (ltb previous pair) in (
        λ t. let all = rw m at t in
            fine-pair n previous pair
            (record {
              first_in = ltb-true 0 (pair / 256) (and_l _ _ all);
              ordered = ltb-true (pair / 256) (pair % 256) (and_l _ _ (and_r _ _ all));
              second_in = leb-true (pair % 256) n (and_l _ _ (and_r _ _ (and_r _ _ all)));
              after = ltb-true previous pair (and_r _ _ (and_r _ _ (and_r _ _ all)));
            }),
        λ f e. let p = pair-of-fine n previous pair e in
            clash
            (m ∙ and_i _ _ (lt-ltb _ _ p.first_in) (and_i _ _ (lt-ltb _ _ p.ordered) (and_i _ _ (le-leb _ _ p.second_in) (lt-ltb _ _ p.after))))
            f,
      )

-- A word below 2 to the size has no bit at or above it: one test decides a row, and a union of rows.
module _ (w : ℕ) (filled : Bool) (size row : ℕ) (l : row < 2 ^ w) where
  pub within-fault : every w (λ (v : ℕ). implies (has row v) (ltb v size)) ≡ false → row_test filled size row ≡ fault RowRange
  within-fault h = row_out filled size row (ltb-false row (2 ^ size) (within-every w row size l ∙ h))

  pub blank-fault : filled && eqb row 0 ≡ true → row_test filled size row ≡ fault BlankRow
  blank-fault h = let b = sym (machine-and _ _) ∙ h in row-blank filled size row (and_l _ _ b) (eqb-true _ _ (and_r _ _ b))

  pub within-fine : every w (λ (v : ℕ). implies (has row v) (ltb v size)) ≡ true → filled && eqb row 0 ≡ false → row_test filled size row ≡ fine
  within-fine h b =
      fine-row filled size row (ltb-true row (2 ^ size) (within-every w row size l ∙ h))
      (λ f. let some = eqb-false row 0 (sym (and-holds _ _ f) ∙ sym (machine-and _ _) ∙ b) in omega (arith, some))

-- ---- the length

machine-not : (b : Bool) → negated b ≡ not b
unfolding not
machine-not true = refl
machine-not false = refl

module _ (bytes : List ℕ) where
  pub short-wrong : length bytes < 3 → true ≡ wrong_length bytes
  unfolding wrong_length wrong_under
  short-wrong h = sym (or_l _ _ (lt-ltb _ _ h))

  pub long-wrong : 15621 < length bytes → true ≡ wrong_length bytes
  unfolding wrong_length wrong_under longest
  long-wrong h = sym (or_r _ _ (or_l _ _ (lt-ltb _ _ h)))

  pub count-wrong : (count : ℕ) → 3 ≤ length bytes → length bytes ≤ 15621 → count ≡ number_at 2 bytes 1
      → negated (eqb (length bytes) (3 + count)) ≡ wrong_length bytes
  unfolding wrong_length wrong_under longest or
  count-wrong count h k e = rw (le-ltb _ _ h, le-ltb _ _ k, e) (machine-not _)

-- ---- the tests of n, of a size and of p are of ranges

eqb-zero : (n : ℕ) → eqb n 0 ≡ ltb n 1
eqb-zero n = bool-ext _ _ (λ t. lt-ltb n 1 (omega (arith, eqb-true n 0 t))) (λ t. eq-eqb n 0 (omega (arith, ltb-true n 1 t)))

pub count-range : count_test ≡ range_test 1 16 VariableCount
unfolding count_test range_test
count-range = fun_ext (λ n. rw (eqb-zero n))

pub size-range : (most : ℕ) → size_test most ≡ range_test 1 most Size
unfolding size_test range_test
size-range most = fun_ext (λ n. rw (eqb-zero n))

pub constraints-range : (n : ℕ) → constraints_test n ≡ range_test 0 (n * (n - 1) / 2) ConstraintCount
unfolding constraints_test range_test or
constraints-range n = fun_ext (λ p. rw (le-ltb p 0 (omega arith)))

-- ---- what a number that passed its test is

or-fault : (c : Cause) (b : Bool) (t : Test) → if b (fault c) t ≡ fine → (b ≡ false) × (t ≡ fine)
unfolding if
or-fault c true t e = absurd (let z : ◌≡◌ {A = ℕ} 0 1 = cc in let x : ⊥ = omega arith in x)
or-fault c false t e = (refl, e)

pub range-passed : (least most v : ℕ) (c : Cause) → range_test least most c v ≡ fine → (least ≤ v) × (v ≤ most)
unfolding range_test
range-passed least most v c e =
    let f = (or-fault _ _ _ e).0 in
    (ltb-false _ _ (or-false-l _ _ f), ltb-false _ _ (or-false-r _ _ f))
