-- The bytes of a network that a head and rows hold, part by part as the code writes them, and how many they are: for every layout.
use mathlib.Core.Bool.{true}
use mathlib.Core.List.{List, [], ◌∷◌, ◌++◌, append_assoc, append-nil}
use mathlib.Core.Path.{◌≡◌, refl, sym, ◌∙◌, ap, ap₂, fun_ext}
use Prim.Native.Nat.{ℕ, zero, suc, ◌+◌, ◌-◌, ◌*◌, ◌/◌, ◌%◌, ◌^◌, ◌≤◌, ◌<◌}
use native.Mathlib.Nat.{add-zero, zero-add, mul-one, mul-zero}
use native.Mathlib.Numerals.{add-one}
use native.Mathlib.Omega.{arith}
use lib.Dec.{eqb, ltb}
use lib.Pow.{shr-shr}
use lib.ListN.{length, get_or, length-append}
use borrow.Author.Tests.{ltb-true, ltb-false}
use Rattle.bounded.specs.Bool.{bit, if}
use Rattle.bounded.specs.Fold.{sum, count}
use Rattle.bounded.specs.Table.{tabulate}
use Rattle.bounded.proofs.Bool.{by_cases, clash, not-true→false, bit-true, bit-false}
use Rattle.bounded.proofs.Fold.{sum-cong, sum-mul, count-cong, count-le, count-widen}
use Rattle.bounded.proofs.Table.{length-tabulate}
use Rattle.words.specs.Word.{width, has, word}
use Rattle.words.proofs.Laws.{word-widen}
use Rattle.buffers.specs.Wrote.{Wrote}
use Rattle.buffers.proofs.Laws.{wrote_then}
use Rattle.network.specs.Sheet.{collect, table_of, sheet_of}
use Rattle.network.proofs.SheetOf.{n-sheet_of}
use Rattle.pairs.specs.Pairs.{variables, allows_of}
use Rattle.head.specs.declared.Head.{Head}
use Rattle.head.specs.Held.{HeadShaped, held, sound_in}
use Rattle.head.proofs.Held.{held-sound, held-n, held-size}
use Rattle.format.specs.Layout.{Layout, longest, found, layout_of}
use Rattle.format.specs.Print.{bytes_of, print_all, print_table, print_body, print, print_in}
use Rattle.format.specs.WellFormed.{WellFormed}
use Rattle.format.specs.Writable.{fits_version, rows_pass}
use Rattle.format.specs.Builds.{width_in}
use Rattle.format.proofs.Layouts.{found-version, other-unknown}
use Rattle.format.proofs.Lengths.{length-rows, few-tables}
use Rattle.format.proofs.Writable.{unknown-unfit, written-wellformed, written-most}
use Rattle.write_sheet.specs.Writing.{bytes_held, LengthIs}
use Rattle.write_tables.specs.Texts.{joined, sizes_text, row_of, rows_text, table_text, later_text, tables_text, body_text, sheet_text}
use Rattle.write_tables.specs.Texts.{later, count_of_tables, tables_length, sheet_length}
use Rattle.write_tables.proofs.Texts.{collect-none, collect-snoc, table-stated, table-unstated}

-- ---- what is collected

collect-cong : {A : Type 0} (f g : ℕ → List A) (c k : ℕ) → ((l : ℕ) → f l ≡ g l) → collect c k f ≡ collect c k g
collect-cong f g c k h = ap (collect c k) (fun_ext h)

length-collect : {A : Type 0} (f : ℕ → List A) (c k : ℕ) → length (collect c k f) ≡ sum c (λ (v : ℕ). length (f (k + v)))
unfolding sum
length-collect f zero k = ap length (collect-none k f)
length-collect f (suc c) k =
    ap length (collect-snoc c k f) ∙ length-append (collect c k f) (f (k + c)) ∙ (let h = length-collect f c k in omega arith)

module _ {A : Type 0} (p : A → List ℕ) where
  print_all-append : (xs ys : List A) → print_all p (xs ++ ys) ≡ print_all p xs ++ print_all p ys
  unfolding print_all
  print_all-append [] ys = refl
  print_all-append (x ∷ xs) ys =
      ap (λ (l : List ℕ). p x ++ l) (print_all-append xs ys) ∙ sym (append_assoc (p x) (print_all p xs) (print_all p ys))

  print_all-collect : (f : ℕ → List A) (c k : ℕ) → print_all p (collect c k f) ≡ collect c k (λ (l : ℕ). print_all p (f l))
  unfolding print_all collect
  print_all-collect f zero k = refl
  print_all-collect f (suc c) k =
      print_all-append (f k) (collect c (suc k) f) ∙ ap (λ (l : List ℕ). print_all p (f k) ++ l) (print_all-collect f c (suc k))

  -- The items of a table are collected, one by one.
  print_all-tabulate : (g f : ℕ → A) (c k : ℕ) → ((v : ℕ) → g v ≡ f (k + v))
      → print_all p (tabulate c g) ≡ collect c k (λ (l : ℕ). p (f l))
  unfolding print_all collect tabulate
  print_all-tabulate g f zero k h = refl
  print_all-tabulate g f (suc c) k h =
      ap₂ (λ (x y : List ℕ). x ++ y) (ap p (h 0 ∙ ap f (add-zero k)))
      (print_all-tabulate (λ (v : ℕ). g (suc v)) f c (suc k) (λ v. h (suc v) ∙ ap f (let e : k + suc v ≡ suc k + v = omega arith in e)))

-- A text is its bytes.
print_all-bytes : (xs : List ℕ) → print_all (λ (x : ℕ). x ∷ []) xs ≡ xs
unfolding print_all
print_all-bytes [] = refl
print_all-bytes (x ∷ xs) = ap (λ (l : List ℕ). x ∷ l) (print_all-bytes xs)

-- ---- what is joined

from_zero : (n : ℕ) (f : ℕ → List ℕ) → collect n 0 f ≡ joined 0 n f
unfolding joined
from_zero n f = ap (λ (c : ℕ). collect c 0 f) (let e : n ≡ n - 0 = omega arith in e)

-- What is printed of a table of n items.
print-table : {A : Type 0} (p : A → List ℕ) (n : ℕ) (f : ℕ → A) → print_all p (tabulate n f) ≡ joined 0 n (λ (k : ℕ). p (f k))
print-table p n f = print_all-tabulate p f f n 0 (λ v. ap f (sym (zero-add v))) ∙ from_zero n _

length-joined : (f : ℕ → List ℕ) (k l : ℕ) → length (joined k l f) ≡ sum (l - k) (λ (v : ℕ). length (f (k + v)))
unfolding joined
length-joined f k l = length-collect f (l - k) k

-- What is joined from 0 on.
length-from-zero : (f : ℕ → List ℕ) (n : ℕ) → length (joined 0 n f) ≡ sum n (λ (i : ℕ). length (f i))
length-from-zero f n =
    sym (ap length (from_zero n f)) ∙ length-collect f n 0 ∙ sum-cong n _ _ (λ i _. ap (λ (k : ℕ). length (f k)) (zero-add i))

-- ---- the texts as what is printed

sizes-printed : (n : ℕ) (sizes : List ℕ) → tabulate n (λ (i : ℕ). get_or sizes i 0) ≡ sizes_text n sizes
unfolding sizes_text
sizes-printed n sizes = sym (print_all-bytes (tabulate n (λ (i : ℕ). get_or sizes i 0))) ∙ print-table (λ (x : ℕ). x ∷ []) n (λ (i : ℕ). get_or sizes i 0)

length-sizes : (n : ℕ) (sizes : List ℕ) → length (sizes_text n sizes) ≡ n
length-sizes n sizes = sym (ap length (sizes-printed n sizes)) ∙ length-tabulate n _

rows-printed : (k : ℕ) (row : ℕ → ℕ → ℕ → ℕ) (size i j : ℕ) → print_all (bytes_of k) (tabulate size (row i j)) ≡ rows_text k row size i j
unfolding rows_text
rows-printed k row size i j = print-table (bytes_of k) size (row i j)

-- ---- the bytes of a network that a head and rows hold

-- The row of value a in the table of i and j.
unfoldable held_row : Head → List ℕ → ℕ → ℕ → ℕ → ℕ
held_row h rows i j a = word (get_or h.sizes j 0) (allows_of width rows i j a)

module _ (h : Head) (rows : List ℕ) where
  held-sizes : (sheet_of (held h rows)).sizes ≡ sizes_text h.n h.sizes
  unfolding sheet_of held
  held-sizes = sizes-printed h.n h.sizes

  held-count-n : length (sheet_of (held h rows)).sizes ≡ h.n
  unfolding held
  held-count-n = n-sheet_of (held h rows)

  module _ (L : Layout) where
    held-table : (i j : ℕ)
        → print_all (print_table L) (table_of (held h rows) i j)
        ≡ table_text L.bytes_per_row (held_row h rows) (get_or h.sizes i 0) (get_or h.stated i 0) i j
    unfolding table_of held if print_all print_table held_row
    held-table i j =
        by_cases (has (get_or h.stated i 0) j)
        (λ t. rw (table-stated L.bytes_per_row (held_row h rows) (get_or h.sizes i 0) (get_or h.stated i 0) i j t, t)
        (append-nil _ ∙ ap (λ (l : List ℕ). suc i ∷ suc j ∷ l) (rows-printed L.bytes_per_row (held_row h rows) (get_or h.sizes i 0) i j)))
        (λ t. rw (table-unstated L.bytes_per_row (held_row h rows) (get_or h.sizes i 0) (get_or h.stated i 0) i j t, t))

    held-later : (i : ℕ) → print_all (print_table L) (collect (h.n - suc i) (suc i) (table_of (held h rows) i))
        ≡ later_text L.bytes_per_row (held_row h rows) h.n (get_or h.sizes i 0) (get_or h.stated i 0) i
    unfolding later_text joined
    held-later i =
        rw (← add-one i)
        (print_all-collect (print_table L) (table_of (held h rows) i) (h.n - (i + 1)) (i + 1) ∙ collect-cong _ _ (h.n - (i + 1)) (i + 1) (held-table i))

    held-tables : print_all (print_table L) (sheet_of (held h rows)).tables ≡ tables_text L.bytes_per_row (held_row h rows) h.n h.sizes h.stated
    unfolding sheet_of held tables_text
    held-tables =
        print_all-collect (print_table L) (λ (i : ℕ). collect (h.n - suc i) (suc i) (table_of (held h rows) i)) h.n 0
        ∙ collect-cong _ _ h.n 0 held-later
        ∙ from_zero h.n _

-- ---- how many tables there are, and the whole text

-- "all entries past n are zero": no variable is stated with one at n or above.
module _ (n : ℕ) (stated : List ℕ) (few : n ≤ variables) (below : (i j : ℕ) → has (get_or stated i 0) j ≡ true → j < n) where
  -- So the members above i are those between i and n.
  later-below : (i : ℕ) → count (n - (i + 1)) (λ (v : ℕ). has (get_or stated i 0) (i + 1 + v)) ≡ later width (get_or stated i 0) i
  unfolding later
  later-below i =
      sym (count-widen (n - (i + 1)) width _ (omega arith) (λ v l. not-true→false _ (λ t. let x : ⊥ = omega (arith, below i (i + 1 + v) t) in x)))

module _ (h : Head) (rows : List ℕ) (few : h.n ≤ variables) (below : (i j : ℕ) → has (get_or h.stated i 0) j ≡ true → j < h.n) where
  count-table : (i j : ℕ) → length (table_of (held h rows) i j) ≡ bit (has (get_or h.stated i 0) j)
  unfolding table_of held if bit
  count-table i j = by_cases (has (get_or h.stated i 0) j) (λ t. rw t) (λ t. rw t)

  count-later : (i : ℕ) → length (collect (h.n - suc i) (suc i) (table_of (held h rows) i)) ≡ later width (get_or h.stated i 0) i
  unfolding count
  count-later i =
      rw (← add-one i)
      (length-collect (table_of (held h rows) i) (h.n - (i + 1)) (i + 1)
      ∙ sum-cong (h.n - (i + 1)) _ _ (λ v _. count-table i (i + 1 + v)) ∙ later-below h.n h.stated few below i)

  held-count : length (sheet_of (held h rows)).tables ≡ count_of_tables width h.n h.stated
  unfolding sheet_of held count_of_tables
  held-count =
      length-collect _ h.n 0
      ∙ sum-cong h.n _ _ (λ i _. count-later (0 + i) ∙ ap (λ (k : ℕ). later width (get_or h.stated k 0) k) (zero-add i))

  module _ (L : Layout) where
    held-body : print_body L (sheet_of (held h rows)) ≡ body_text width L.bytes_per_row (held_row h rows) h.n h.sizes h.stated
    unfolding print_body body_text
    held-body = rw (held-count, held-tables h rows L, held-count-n h rows, held-sizes h rows)

    held-text : print L (sheet_of (held h rows)) ≡ sheet_text width L.bytes_per_row (held_row h rows) L.version h.n h.sizes h.stated
    unfolding print sheet_text
    held-text = ap (λ (b : List ℕ). L.version ∷ (bytes_of 2 (length b) ++ b)) held-body

-- ---- the parts of a sheet

module _ (k : ℕ) (row : ℕ → ℕ → ℕ → ℕ) (n : ℕ) (sizes stated : List ℕ) where
  pub body-parts : length (body_text width k row n sizes stated) ≡ 2 + length (sizes_text n sizes) + length (tables_text k row n sizes stated)
  unfolding body_text
  body-parts = omega (arith, length-append (sizes_text n sizes) (count_of_tables width n stated ∷ tables_text k row n sizes stated))

  pub sheet-parts : (version : ℕ) → length (sheet_text width k row version n sizes stated) ≡ 3 + length (body_text width k row n sizes stated)
  unfolding sheet_text bytes_of
  sheet-parts version = omega arith

  pub wrote-sheet : {a b c d e : List ℕ} {x y z r version follow tables : ℕ}
      → follow ≡ length (body_text width k row n sizes stated) → tables ≡ count_of_tables width n stated
      → Wrote a b (version ∷ (bytes_of 2 follow ++ (n ∷ []))) 0 x → Wrote b c (sizes_text n sizes) x y
      → Wrote c d (tables ∷ []) y z → Wrote d e (tables_text k row n sizes stated) z r
      → Wrote a e (sheet_text width k row version n sizes stated) 0 r
  unfolding sheet_text body_text bytes_of
  wrote-sheet p q h i j l = wrote_then (rw p at h) (wrote_then i (wrote_then (rw q at j) l))

-- ---- how long the texts are

module _ (k : ℕ) (row : ℕ → ℕ → ℕ → ℕ) where
  length-rows-text : (size i j : ℕ) → length (rows_text k row size i j) ≡ k * size
  length-rows-text size i j =
      sym (ap length (rows-printed k row size i j)) ∙ length-rows k _ ∙ ap (λ (m : ℕ). k * m) (length-tabulate size (row i j))

  length-table : (size stated i j : ℕ) → length (table_text k row size stated i j) ≡ (2 + k * size) * bit (has stated j)
  length-table size stated i j =
      by_cases (has stated j)
      (λ t. rw (table-stated k row size stated i j t, bit-true _ t, mul-one) (omega (arith, length-rows-text size i j)))
      (λ t. rw (table-unstated k row size stated i j t, bit-false _ t, mul-zero))

  module _ (n : ℕ) (sizes stated : List ℕ) (few : n ≤ variables) (below : (i j : ℕ) → has (get_or stated i 0) j ≡ true → j < n) where
    length-later : (i : ℕ)
        → length (later_text k row n (get_or sizes i 0) (get_or stated i 0) i) ≡ (2 + k * get_or sizes i 0) * later width (get_or stated i 0) i
    unfolding later_text count
    length-later i =
        length-joined (table_text k row (get_or sizes i 0) (get_or stated i 0) i) (i + 1) n
        ∙ sum-cong (n - (i + 1)) _ _ (λ v _. length-table (get_or sizes i 0) (get_or stated i 0) i (i + 1 + v))
        ∙ sum-mul (n - (i + 1)) (2 + k * get_or sizes i 0) (λ (v : ℕ). bit (has (get_or stated i 0) (i + 1 + v)))
        ∙ ap (λ (c : ℕ). (2 + k * get_or sizes i 0) * c) (later-below n stated few below i)

    length-sheet : (version : ℕ) → length (sheet_text width k row version n sizes stated) ≡ sheet_length width k n sizes stated
    unfolding sheet_length tables_text tables_length
    length-sheet version =
        let tables = length-from-zero (λ (i : ℕ). later_text k row n (get_or sizes i 0) (get_or stated i 0) i) n ∙ sum-cong n _ _ (λ i _. length-later i) in
        omega (arith, sheet-parts k row n sizes stated version, body-parts k row n sizes stated, length-sizes n sizes, tables)

-- The bytes of a network that a head and rows hold are as many as the sizes and the stated pairs say, whatever the rows are.
pub length-held : (L : Layout) (h : Head) (rows : List ℕ) → h.n ≤ variables → ((i j : ℕ) → has (get_or h.stated i 0) j ≡ true → j < h.n)
    → length (print L (sheet_of (held h rows))) ≡ sheet_length width L.bytes_per_row h.n h.sizes h.stated
length-held L h rows few below =
    ap length (held-text h rows few below L) ∙ length-sheet L.bytes_per_row (held_row h rows) h.n h.sizes h.stated few below L.version

-- ---- a sound state

module _ {h : Head} (rows : List ℕ) (shaped : HeadShaped h) (t : sound_in h rows ≡ true) where
  -- A row has no bit at or above the size of the second variable, so the array has it as the table does.
  row_same : held_row h rows ≡ row_of width rows
  unfolding held_row row_of held
  row_same =
      fun_ext (λ i. fun_ext (λ j. fun_ext (λ a.
      sym (word-widen (get_or h.sizes j 0) width (allows_of width rows i j a) (omega (arith, held-size h rows shaped t j))
      (λ v g _. not-true→false _ (λ u. let x : ⊥ = omega (arith, ((held-sound h rows shaped t).allows_in i j a v u).1) in x))))))

  pub stated-below : (i j : ℕ) → has (get_or h.stated i 0) j ≡ true → j < h.n
  unfolding held
  stated-below i j u = ((held-sound h rows shaped t).stated_in i j u).1

  -- in a version whose tests it passes
  module _ (version : ℕ) (fits : fits_version (layout_of version) (held h rows) ≡ true) (pass : rows_pass (layout_of version) (held h rows) ≡ true) where
    sound-layout : (L : Layout) × (layout_of version ≡ found L) × WellFormed L (sheet_of (held h rows))
    unfolding held
    sound-layout = written-wellformed (held h rows) (held-sound h rows shaped t) version fits pass (held-n h rows t)

    -- A version that there is is a byte.
    pub version-byte : version < 256
    version-byte =
        by_cases (ltb version 256)
        (λ l. ltb-true _ _ l)
        (λ l. let m : 256 ≤ version = ltb-false version 256 l in
        clash (rw (other-unknown version (λ e. omega arith) (λ e. omega arith) (λ e. omega arith)) at fits) (unknown-unfit (held h rows)))

    pub bytes-printed : (L : Layout) × (layout_of version ≡ found L) × (bytes_held version h rows ≡ print L (sheet_of (held h rows)))
    unfolding bytes_held print_in
    bytes-printed = let (L, e, _) = sound-layout in (L, e, rw e)

    -- What `extent_of` counts, with the bytes of a row in this version, is how many bytes it has.
    pub length-told : {k total : ℕ} → k ≡ width_in (layout_of version) → LengthIs k h.n h.sizes h.stated total
        → total ≡ length (bytes_held version h rows)
    unfolding width_in
    length-told e l =
        let (L, f, p) = bytes-printed in
        l L h rows (sym (e ∙ ap width_in f)) refl refl refl ∙ sym (ap length p)

    -- No sheet is longer than the limit, so that two bytes have room for the count,
    pub sound-most : length (bytes_held version h rows) ≤ 15621
    unfolding bytes_held longest held
    sound-most = written-most (held h rows) (held-sound h rows shaped t) version fits pass (held-n h rows t)

    -- and none has more than 120 tables.
    pub sound-count : count_of_tables width h.n h.stated ≤ 120
    sound-count =
        let (_, _, W) = sound-layout in
        rw (held-count h rows (held-n h rows t) stated-below) at (few-tables _ _ W.most_variables W.table_count)

    -- What the code writes is the sheet of the network.
    pub sound-text : (k : ℕ) → k ≡ width_in (layout_of version)
        → bytes_held version h rows ≡ sheet_text width k (row_of width rows) version h.n h.sizes h.stated
    unfolding width_in
    sound-text k same =
        let (L, e, p) = bytes-printed in
        p ∙ held-text h rows (held-n h rows t) stated-below L
        ∙ ap (λ (row : ℕ → ℕ → ℕ → ℕ). sheet_text width L.bytes_per_row row L.version h.n h.sizes h.stated) row_same
        ∙ ap (λ (v : ℕ). sheet_text width L.bytes_per_row (row_of width rows) v h.n h.sizes h.stated) (sym (found-version version L e))
        ∙ ap (λ (b : ℕ). sheet_text width b (row_of width rows) version h.n h.sizes h.stated) (sym (same ∙ ap width_in e))

-- ---- the members above i, by a shift

has-shifted : (x k v : ℕ) → has (x / 2 ^ k) v ≡ has x (k + v)
unfolding has
has-shifted x k v = ap (λ (q : ℕ). eqb (q % 2) 1) (shr-shr x k v)

pub later-shifted : (x i : ℕ) → count width (has (x / 2 ^ (i + 1))) ≡ later width x i
unfolding later
later-shifted x i = count-cong width _ _ (λ v _. has-shifted x (i + 1) v)

pub later-most : (x i : ℕ) → later width x i ≤ width
unfolding later
later-most x i = count-le width _

-- ---- one variable more

sum_more : (i : ℕ) (f : ℕ → ℕ) → sum (i + 1) f ≡ f i + sum i f
unfolding sum
sum_more i f = ap (λ (k : ℕ). sum k f) (add-one i)

pub count_none : (stated : List ℕ) → count_of_tables width 0 stated ≡ 0
unfolding count_of_tables sum
count_none stated = refl

pub count-more : (i : ℕ) (stated : List ℕ) → count_of_tables width (i + 1) stated ≡ later width (get_or stated i 0) i + count_of_tables width i stated
unfolding count_of_tables
count-more i stated = sum_more i _

module _ (k : ℕ) (sizes stated : List ℕ) where
  pub bytes-none : tables_length width k 0 sizes stated ≡ 0
  unfolding tables_length sum
  bytes-none = refl

  pub bytes-more : (i : ℕ)
      → tables_length width k (i + 1) sizes stated ≡ (2 + k * get_or sizes i 0) * later width (get_or stated i 0) i + tables_length width k i sizes stated
  unfolding tables_length
  bytes-more i = sum_more i _
