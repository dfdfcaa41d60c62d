-- The parser: document 01, "A sheet on disk", with the numbers 1 to 8, 19 and 20 after 7, and 26 after 8, in their order.
use Rattle.std.specs.Prelude.{Bool, List, [], ◌∷◌, ℕ, zero, suc, ◌+◌, ◌-◌, ◌*◌, ◌/◌, ◌%◌, ◌^◌, ◌<◌, eqb, ltb, length, get_or}
use Rattle.bounded.specs.Bool.{or, not, if}
use Rattle.cause.specs.declared.Cause.{Cause}
use Rattle.cause.specs.declared.Cause.TheVariants.{Length, Version, Extent}
use Rattle.network.specs.Sheet.{Table, Sheet}
use Rattle.format.specs.Layout.{Test, fine, fault, Layout, count_test, size_test, constraints_test, pair_test, row_test, longest, Lookup, found, unknown, layouts, layout_among}

-- Bytes: each is below 256.
abbrev pub Octets : List ℕ → Type 0
Octets bytes = (k : ℕ) → get_or bytes k 0 < 256

-- What a parser finds at a place: a value and the place after it, or a cause and its place. "Places are byte numbers counted from 0."
pub data Parse (A : Type 0) : Type 0 where
  got : A → ℕ → Parse A
  bad : Cause → ℕ → Parse A

-- One parser, and then another that depends on its value.
unfoldable pub bind : {A B : Type 0} → Parse A → (A → ℕ → Parse B) → Parse B
bind (got x next) f = f x next
bind (bad c at) f = bad c at

-- The number in k bytes: "All numbers are unsigned and big-endian."
unfoldable pub number_at : ℕ → List ℕ → ℕ → ℕ
number_at zero bytes at = 0
number_at (suc k) bytes at = get_or bytes at 0 * 256 ^ k + number_at k bytes (suc at)

unfoldable pub judged : Test → ℕ → ℕ → ℕ → Parse ℕ
judged fine v at k = got v (at + k)
judged (fault c) v at k = bad c at

-- A field of k bytes: "at each field 6 precedes its own number", "place where that field .. begins".
unfoldable pub field : ℕ → (ℕ → Test) → List ℕ → ℕ → Parse ℕ
field k test bytes at = if (ltb (length bytes) (at + k)) (bad Extent at) (judged (test (number_at k bytes at)) (number_at k bytes at) at k)

-- So many items in a row. What each must know of the ones before it is handed on as s.
unfoldable pub many : {S A : Type 0} → (S → A → S) → (S → List ℕ → ℕ → Parse A) → ℕ → S → List ℕ → ℕ → Parse (List A)
many step item zero s bytes at = got [] at
many step item (suc k) s bytes at =
    bind (item s bytes at) (λ x next. bind (many step item k (step s x) bytes next) (λ xs end. got (x ∷ xs) end))

-- Items that need know nothing of the ones before: so many fields.
unfoldable pub fields : ℕ → (ℕ → Test) → ℕ → List ℕ → ℕ → Parse (List ℕ)
fields k test count bytes at = many (λ (s x : ℕ). s) (λ (s : ℕ). field k test) count 0 bytes at

-- A pair as one number.
unfoldable pub pair_of : Table → ℕ
pair_of t = t.first * 256 + t.second

-- The size of a variable, counted from 1.
unfoldable pub size_of : List ℕ → ℕ → ℕ
size_of sizes x = get_or sizes (x - 1) 0

-- "A table is a pair a, b .. and one two-byte row for each value of a, value 0 first", a row having the bytes that the layout gives it.
unfoldable pub parse_table : Layout → List ℕ → ℕ → List ℕ → ℕ → Parse Table
parse_table L sizes previous bytes at =
    bind (field 2 (pair_test (length sizes) previous) bytes at) (λ pair next.
    bind (fields L.bytes_per_row (row_test L.filled (size_of sizes (pair % 256))) (size_of sizes (pair / 256)) bytes next) (λ rows end.
    got (record { first = pair / 256; second = pair % 256; rows = rows }) end))

unfoldable pub parse_tables : Layout → List ℕ → ℕ → ℕ → List ℕ → ℕ → Parse (List Table)
parse_tables L sizes count previous bytes at = many (λ (s : ℕ) (t : Table). pair_of t) (parse_table L sizes) count previous bytes at

-- "bytes are left over": "place where .. the rest begins"
unfoldable pub ended : Sheet → List ℕ → ℕ → Parse Sheet
ended s bytes at = if (ltb at (length bytes)) (bad Extent at) (got s at)

-- "Then: n ..; n sizes ..; p, the number of tables ..; p tables."
unfoldable pub parse_body : Layout → List ℕ → Parse Sheet
parse_body L bytes =
    bind (field 1 count_test bytes 3) (λ n next.
    bind (fields 1 (size_test L.values_at_most) n bytes next) (λ sizes next.
    bind (field 1 (constraints_test n) bytes next) (λ p next.
    bind (parse_tables L sizes p 0 bytes next) (λ tables next.
    ended (record { sizes = sizes; tables = tables }) bytes next))))

-- 1 "under 3 bytes, over 4,101, or not 3 plus the count", with a limit for 4,101. "Bytes 1 and 2 are the count of bytes that follow them."
unfoldable pub wrong_under : ℕ → List ℕ → Bool
wrong_under limit bytes = or (ltb (length bytes) 3) (or (ltb limit (length bytes)) (not (eqb (length bytes) (3 + number_at 2 bytes 1))))

-- 2 "version not 1": "Number 2 now means neither 1 nor 2", and then lets "3 pass too": it has no layout. Otherwise the body is read in its layout.
unfoldable pub parse_in : Lookup → List ℕ → Parse Sheet
parse_in unknown bytes = bad Version 0
parse_in (found L) bytes = parse_body L bytes

-- "Number 1 is tested first, then 2, then fields in file order." Byte 0 is the version. The limit and the layouts are all that a new version changes.
unfoldable pub parse_under : ℕ → List Layout → List ℕ → Parse Sheet
parse_under limit Ls bytes = if (wrong_under limit bytes) (bad Length 0) (parse_in (layout_among Ls (get_or bytes 0 0)) bytes)

-- Today's limit, and today's layouts.
unfoldable pub wrong_length : List ℕ → Bool
wrong_length bytes = wrong_under longest bytes

unfoldable pub parse : List ℕ → Parse Sheet
parse bytes = parse_under longest layouts bytes
