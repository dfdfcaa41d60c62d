-- Entries and bins that are printed in strict form are read back.
use mathlib.Core.Bool.{Bool, true, false}
use mathlib.Core.List.{List, [], ◌∷◌}
use mathlib.Core.Path.{◌≡◌, refl, ◌∙◌, ap}
use Prim.Native.Nat.{ℕ, zero, suc, ◌+◌, ◌-◌, ◌*◌, ◌/◌, ◌%◌, ◌≤◌, ◌<◌}
use native.Mathlib.Omega.{arith}
use native.Mathlib.Numerals.{add-one}
use lib.Dec.{eqb, ltb}
use lib.ListN.{length, replicate, length-append}
use lib.Seq.{sets}
use borrow.Author.Tests.{le-ltb, lt-ltb, le-leb, ltb-true, ltb-false, eq-eqb, ne_eqb}
use Rattle.bounded.specs.Bool.{if, and, or, not}
use Rattle.bounded.proofs.Bool.{by_cases, if-true, if-false, and_i}
use Rattle.buffers.specs.Digits.{decimal}
use Rattle.buffers.proofs.Digits.{decimal-one, decimal-more}
use Rattle.scan.specs.declared.Scan.{Scan}
use Rattle.scan.specs.declared.Line.{Line}
use Rattle.scan.specs.Bytes.{within, one_of, is_digit, is_letter, is_separator, is_blank, kind_of}
use Rattle.scan.specs.Scan.{first_kind, opening, up, phased, going, digit_on, first_digit, digit, kept, stored, close, separated, separator, ended_after, ended, kinded, lettered, letter, taken, begin_after, ticked, step, scan}
use Rattle.scan.specs.Line.{miscounted, line_kind, told, judged, finish, line_of}
use Rattle.scan.specs.Strict.{numbers_text, entry_text, line_with, ReadAs, Small}
use Rattle.scan.proofs.Laws.{scan-append, step-taken}
use Rattle.scan.proofs.Ends.{return-taken}

-- A number may begin here.
pub record Ready (s : Scan) : Type 0 where
  pub right : s.fault ≡ 0
  pub no_return : s.cr ≡ 0
  pub not_within : s.phase ≡ 1 → ⊥
  pub counts : s.phase ≡ 4 → ⊥
  pub not_behind : s.phase ≡ 5 → ⊥
  pub kinded : s.kind ≡ 0 → ⊥

-- A place moves on by so many bytes.
unfoldable pub ups : ℕ → ℕ → ℕ
ups zero x = x
ups (suc k) x = up (ups k x)

-- In a number that began at the place of s.
unfoldable pub inside : ℕ → ℕ → Scan → Scan
inside value column s =
    record {
      cells = s.cells;
      value = value;
      count = s.count;
      place = s.column;
      column = column;
      begin = s.begin;
      cr = 0;
      phase = 1;
      fault = 0;
      kind = s.kind;
    }

taken-digit : (s : Scan) (d : ℕ) → d < 10 → taken s (48 + d) ≡ digit s d
unfolding taken is_digit within
taken-digit s d h =
    let e : 48 + d - 48 ≡ d = omega arith in
    if-true _ _ _ (and_i _ _ (le-leb 48 (48 + d) (omega arith)) (le-leb (48 + d) 57 (omega arith))) ∙ rw e

begins : (s : Scan) (d : ℕ) → Ready s → s.count < 17 → digit s d ≡ going d s.column s
unfolding digit first_digit
begins s d r h =
    if-false _ _ _ (ne_eqb _ 1 r.not_within)
    ∙ if-false _ _ _ (ne_eqb _ 5 r.not_behind)
    ∙ if-false _ _ _ (ne_eqb _ 0 r.kinded)
    ∙ if-true _ _ _ (lt-ltb _ 17 h)

-- The first digit of a number,
first-digit : (s : Scan) (d : ℕ) → d < 10 → Ready s → s.count < 17 → step s (48 + d) ≡ inside d (up s.column) s
unfolding going ticked begin_after inside if
first-digit s d h r k =
    step-taken s (48 + d) r.counts r.no_return (λ e. omega arith)
    ∙ ap ticked (taken-digit s d h ∙ begins s d r k)
    ∙ rw (r.right, r.no_return)

-- and a further one.
next-digit : (s : Scan) (v d column : ℕ) → d < 10 → v * 10 + d ≤ 4294967295 → step (inside v column s) (48 + d) ≡ inside (v * 10 + d) (up column) s
unfolding digit digit_on going ticked begin_after inside if
next-digit s v d column h k =
    step-taken (inside v column s) (48 + d) (λ z. omega arith) refl (λ e. omega arith)
    ∙ ap ticked (taken-digit (inside v column s) d h ∙ if-false _ _ _ (le-ltb 4294967295 (v * 10 + d) k))

-- A whole number.
number-within : (m n : ℕ) (s : Scan) → n < m → n ≤ 4294967295 → Ready s → s.count < 17
    → scan s (decimal n) ≡ inside n (ups (length (decimal n)) s.column) s
unfolding scan ups
number-within zero n s h k r t = absurd (let x : ⊥ = omega arith in x)
number-within (suc m) n s h k r l =
    by_cases (ltb n 10)
    (λ t. let d : n < 10 = ltb-true n 10 t in rw (decimal-one n d) (first-digit s n d r l))
    (λ t. let d : 10 ≤ n = ltb-false n 10 t in
    let e : n / 10 * 10 + n % 10 ≡ n = omega arith in
    rw (decimal-more n d)
    (scan-append s (decimal (n / 10)) ((48 + n % 10) ∷ [])
    ∙ ap (λ (x : Scan). step x (48 + n % 10)) (number-within m (n / 10) s (omega arith) (omega arith) r l)
    ∙ next-digit s (n / 10) (n % 10) (ups (length (decimal (n / 10))) s.column) (omega arith) (omega arith)
    ∙ rw (e, length-append (decimal (n / 10)) ((48 + n % 10) ∷ []), add-one)))

number_read : (n : ℕ) (s : Scan) → n ≤ 4294967295 → Ready s → s.count < 17
    → scan s (decimal n) ≡ inside n (ups (length (decimal n)) s.column) s
number_read n s = number-within (suc n) n s (omega arith)

-- The number ends: it is kept.
close-inside : (v column : ℕ) (s : Scan) → s.count < 17 → close (inside v column s) ≡ kept (inside v column s)
unfolding close stored inside if
close-inside v column s h = if-true _ _ _ (lt-ltb _ 17 h)

taken-comma : (s : Scan) → taken s 44 ≡ separator s
unfolding taken is_digit is_separator within one_of and or if
taken-comma s = refl

-- After a number and a comma the next number may come.
unfoldable pub beyond : ℕ → ℕ → Scan → Scan
beyond v column s = ticked (phased 2 (kept (inside v column s)))

after-comma : (v column : ℕ) (s : Scan) → s.count < 17 → step (inside v column s) 44 ≡ beyond v column s
unfolding separator separated if inside kept beyond
after-comma v column s h =
    step-taken (inside v column s) 44 (λ z. omega arith) refl (λ e. omega arith)
    ∙ ap ticked (taken-comma (inside v column s) ∙ ap separated (close-inside v column s h))

ready-beyond : (v column : ℕ) (s : Scan) → (s.kind ≡ 0 → ⊥) → Ready (beyond v column s)
unfolding beyond ticked phased kept inside
ready-beyond v column s k =
    record {
      right = refl;
      no_return = refl;
      not_within = λ z. omega arith;
      counts = λ z. omega arith;
      not_behind = λ z. omega arith;
      kinded = k;
    }

at-end : (v column : ℕ) (s : Scan) → s.count < 17 → ended (inside v column s) ≡ kept (inside v column s)
unfolding ended ended_after if inside kept
at-end v column s h = ap ended_after (close-inside v column s h)

-- Nothing is wrong, and the numbers stand in the cells behind those that were there.
pub record Holds (s : Scan) (xs : List ℕ) (r : Scan) : Type 0 where
  pub right : r.fault ≡ 0
  pub same_kind : r.kind ≡ s.kind
  pub counted : r.count ≡ s.count + length xs
  pub stored : r.cells ≡ sets s.cells s.count xs

several : (x y : ℕ) (ys : List ℕ) (s : Scan) → x ≤ 4294967295 → s.count < 17 → Ready s
    → scan s (numbers_text (x ∷ y ∷ ys)) ≡ scan (beyond x (ups (length (decimal x)) s.column) s) (numbers_text (y ∷ ys))
unfolding numbers_text scan
several x y ys s b h r =
    scan-append s (decimal x) (44 ∷ numbers_text (y ∷ ys))
    ∙ ap (λ (t : Scan). scan (step t 44) (numbers_text (y ∷ ys))) (number_read x s b r h)
    ∙ ap (λ (t : Scan). scan t (numbers_text (y ∷ ys))) (after-comma x (ups (length (decimal x)) s.column) s h)

further : (x column : ℕ) (xs : List ℕ) (s r : Scan) → Holds (beyond x column s) xs r → Holds s (x ∷ xs) r
unfolding beyond ticked phased kept inside
further x column xs s r h =
    record {
      right = h.right;
      same_kind = h.same_kind;
      counted = h.counted ∙ (let e : s.count + 1 + length xs ≡ s.count + suc (length xs) = omega arith in e);
      stored = h.stored ∙ rw add-one;
    }

count-beyond : (x column : ℕ) (s : Scan) → (beyond x column s).count ≡ s.count + 1
unfolding beyond ticked phased kept inside
count-beyond x column s = refl

kept-holds : (x column : ℕ) (s : Scan) → Holds s (x ∷ []) (kept (inside x column s))
unfolding kept inside
kept-holds x column s = record { right = refl; same_kind = refl; counted = refl; stored = refl }

-- A list of numbers that is printed is read back, behind what was read before.
pub numbers-read : (x : ℕ) (xs : List ℕ) (s : Scan) → Small (x ∷ xs) → s.count + suc (length xs) ≤ 17 → Ready s
    → Holds s (x ∷ xs) (ended (scan s (numbers_text (x ∷ xs))))
unfolding numbers_text Small
numbers-read x [] s b h r =
    let c = ups (length (decimal x)) s.column in
    rw (number_read x s b.0 r (omega arith), at-end x c s (omega arith)) (kept-holds x c s)
numbers-read x (y ∷ ys) s b h r =
    let c = ups (length (decimal x)) s.column in
    rw (several x y ys s b.0 (omega arith) r)
    (further x c (y ∷ ys) s (ended (scan (beyond x c s) (numbers_text (y ∷ ys))))
    (numbers-read y ys (beyond x c s) b.1 (omega (arith, count-beyond x c s)) (ready-beyond x c s r.kinded)))

-- No carriage return was seen.
inside-return : (v column : ℕ) (s : Scan) → (inside v column s).cr ≡ 0
unfolding inside
inside-return v column s = refl

numbers-return : (x : ℕ) (xs : List ℕ) (s : Scan) → Small (x ∷ xs) → s.count + suc (length xs) ≤ 17 → Ready s → (scan s (numbers_text (x ∷ xs))).cr ≡ 0
unfolding numbers_text Small
numbers-return x [] s b h r = rw (number_read x s b.0 r (omega arith)) (inside-return x (ups (length (decimal x)) s.column) s)
numbers-return x (y ∷ ys) s b h r =
    let c = ups (length (decimal x)) s.column in
    rw (several x y ys s b.0 (omega arith) r)
    (numbers-return y ys (beyond x c s) b.1 (omega (arith, count-beyond x c s)) (ready-beyond x c s r.kinded))

-- What holds the numbers, and has the right count of them, is told as such.
told-holds : (s : Scan) (xs : List ℕ) (r : Scan) → Holds s xs r → s.cells ≡ replicate 17 0 → s.count ≡ 0
    → miscounted s.kind (length xs) ≡ false → judged r ≡ line_with (line_kind s.kind) xs
unfolding judged told line_with
told-holds s xs r h e z m =
    let n : r.count ≡ length xs = omega (arith, h.counted) in
    if-true _ _ _ (eq-eqb _ 0 h.right)
    ∙ if-false _ _ _ (rw (h.same_kind, n) m)
    ∙ rw (h.same_kind, n, h.stored, e, z)

read-from : (x : ℕ) (xs : List ℕ) (s : Scan) → Small (x ∷ xs) → suc (length xs) ≤ 17 → Ready s → s.cells ≡ replicate 17 0 → s.count ≡ 0
    → miscounted s.kind (suc (length xs)) ≡ false → finish (scan s (numbers_text (x ∷ xs))) ≡ line_with (line_kind s.kind) (x ∷ xs)
unfolding finish
read-from x xs s b h r e z m =
    told-holds s (x ∷ xs) (ended (scan s (numbers_text (x ∷ xs)))) (numbers-read x xs s b (omega arith) r) e z m

-- Behind the letter of a kind and a comma.
unfoldable pub behind : ℕ → Scan
behind kind =
    record {
      cells = replicate 17 0;
      value = 0;
      count = 0;
      place = 0;
      column = 3;
      begin = 1;
      cr = 0;
      phase = 2;
      fault = 0;
      kind = kind;
    }

module _ (rest : List ℕ) where
  behind-D : scan (opening false) (68 ∷ 44 ∷ rest) ≡ scan (behind 1) rest
  unfolding scan opening first_kind behind step taken ticked begin_after up letter lettered kinded kind_of separator separated close phased is_digit is_separator is_blank is_letter within one_of and or if
  behind-D = refl

  behind-d : scan (opening false) (100 ∷ 44 ∷ rest) ≡ scan (behind 1) rest
  unfolding scan opening first_kind behind step taken ticked begin_after up letter lettered kinded kind_of separator separated close phased is_digit is_separator is_blank is_letter within one_of and or if
  behind-d = refl

  behind-C : scan (opening false) (67 ∷ 44 ∷ rest) ≡ scan (behind 2) rest
  unfolding scan opening first_kind behind step taken ticked begin_after up letter lettered kinded kind_of separator separated close phased is_digit is_separator is_blank is_letter within one_of and or if
  behind-C = refl

  behind-c : scan (opening false) (99 ∷ 44 ∷ rest) ≡ scan (behind 2) rest
  unfolding scan opening first_kind behind step taken ticked begin_after up letter lettered kinded kind_of separator separated close phased is_digit is_separator is_blank is_letter within one_of and or if
  behind-c = refl

behind-ready : (kind : ℕ) → (kind ≡ 0 → ⊥) → Ready (behind kind)
unfolding behind
behind-ready kind k =
    record { right = refl; no_return = refl; not_within = λ z. omega arith; counts = λ z. omega arith; not_behind = λ z. omega arith; kinded = k }

behind-read : (kind x : ℕ) (xs : List ℕ) → (kind ≡ 0 → ⊥) → (kind ≡ 3 → ⊥) → Small (x ∷ xs) → suc (length xs) ≤ 17
    → miscounted kind (suc (length xs)) ≡ false → finish (scan (behind kind) (numbers_text (x ∷ xs))) ≡ line_with kind (x ∷ xs)
unfolding behind line_kind
behind-read kind x xs k l b h m =
    read-from x xs (behind kind) b h (behind-ready kind k) refl refl m
    ∙ ap (λ (n : ℕ). line_with n (x ∷ xs)) (if-false _ _ _ (ne_eqb kind 3 l))

behind-return : (kind x : ℕ) (xs : List ℕ) → (kind ≡ 0 → ⊥) → Small (x ∷ xs) → suc (length xs) ≤ 17
    → (scan (behind kind) (numbers_text (x ∷ xs))).cr ≡ 0
unfolding behind
behind-return kind x xs k b h = numbers-return x xs (behind kind) b (omega arith) (behind-ready kind k)

read_as : (numbers : Bool) (bytes : List ℕ) (line : Line) → (scan (opening numbers) bytes).cr ≡ 0 → line_of numbers bytes ≡ line → ReadAs numbers bytes line
read_as numbers bytes line c e = record { plain = e; with_return = return-taken numbers bytes c ∙ e }

-- An entry, by what its letter and the comma leave.
entry_read : (letter kind x : ℕ) (xs : List ℕ) → scan (opening false) (letter ∷ 44 ∷ numbers_text (x ∷ xs)) ≡ scan (behind kind) (numbers_text (x ∷ xs))
    → (kind ≡ 0 → ⊥) → (kind ≡ 3 → ⊥) → Small (x ∷ xs) → suc (length xs) ≤ 17 → miscounted kind (suc (length xs)) ≡ false
    → ReadAs false (entry_text letter (x ∷ xs)) (line_with kind (x ∷ xs))
unfolding entry_text line_of
entry_read letter kind x xs e k l b h m =
    read_as false (entry_text letter (x ∷ xs)) (line_with kind (x ∷ xs))
    (rw e (behind-return kind x xs k b h))
    (rw e (behind-read kind x xs k l b h m))

-- THEOREM. "`D,option,value,count` a delivery" is read back, with "letters of either case",
pub delivery-read : (option value count : ℕ) → Small (option ∷ value ∷ count ∷ [])
    → ReadAs false (entry_text 68 (option ∷ value ∷ count ∷ [])) (line_with 1 (option ∷ value ∷ count ∷ []))
    × ReadAs false (entry_text 100 (option ∷ value ∷ count ∷ [])) (line_with 1 (option ∷ value ∷ count ∷ []))
unfolding miscounted if not
delivery-read o v c b =
    let xs = o ∷ v ∷ c ∷ [] in (
      entry_read 68 1 o (v ∷ c ∷ []) (behind-D (numbers_text xs)) (λ z. omega arith) (λ z. omega arith) b (omega arith) refl,
      entry_read 100 1 o (v ∷ c ∷ []) (behind-d (numbers_text xs)) (λ z. omega arith) (λ z. omega arith) b (omega arith) refl,
    )

-- and so is "`C,count,v1,..,vn` a call-off", of up to sixteen values,
pub call-off-read : (count : ℕ) (values : List ℕ) → Small (count ∷ values) → length values ≤ 16
    → ReadAs false (entry_text 67 (count ∷ values)) (line_with 2 (count ∷ values)) × ReadAs false (entry_text 99 (count ∷ values)) (line_with 2 (count ∷ values))
unfolding miscounted if not
call-off-read c vs b h =
    let m : eqb (suc (length vs)) 0 ≡ false = ne_eqb (suc (length vs)) 0 (λ z. omega arith) in (
      entry_read 67 2 c vs (behind-C (numbers_text (c ∷ vs))) (λ z. omega arith) (λ z. omega arith) b (omega arith) m,
      entry_read 99 2 c vs (behind-c (numbers_text (c ∷ vs))) (λ z. omega arith) (λ z. omega arith) b (omega arith) m,
    )

opening-ready : Ready (opening true)
unfolding opening first_kind if
opening-ready =
    record { right = refl; no_return = refl; not_within = λ z. omega arith; counts = λ z. omega arith; not_behind = λ z. omega arith; kinded = λ z. omega arith }

-- and "a line `option,value,count` for each bin".
pub bin-read : (option value count : ℕ) → Small (option ∷ value ∷ count ∷ [])
    → ReadAs true (numbers_text (option ∷ value ∷ count ∷ [])) (line_with 0 (option ∷ value ∷ count ∷ []))
unfolding line_of opening first_kind miscounted line_kind if not or
bin-read o v c b =
    let xs = o ∷ v ∷ c ∷ [] in
    read_as true (numbers_text xs) (line_with 0 xs)
    (numbers-return o (v ∷ c ∷ []) (opening true) b (omega arith) opening-ready)
    (read-from o (v ∷ c ∷ []) (opening true) b (omega arith) opening-ready refl refl refl)
