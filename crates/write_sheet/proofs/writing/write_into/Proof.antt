-- The parts one after the other are the sheet: `wrote-sheet`, and `sound-text`, by which a sound state's rows are those of its tables.
use mathlib.Core.Path.{◌≡◌, ◌∙◌, ap}
use Prim.Native.Nat.{ℕ, ◌+◌, ◌≤◌}
use native.Mathlib.Omega.{arith}
use lib.ListN.{length, get_or}
use borrow.Author.Rules.{rules}
use Rattle.words.specs.Word.{width}
use Rattle.pairs.specs.Pairs.{variables}
use Rattle.head.proofs.Held.{HeadShaped, shape, held-n, held-size}
use Rattle.format.specs.Print.{bytes_of}
use Rattle.write_sheet.specs.Writing.{bytes_held}
use Rattle.write_tables.specs.Texts.{row_of, sizes_text, tables_text, body_text, sheet_text}
use Rattle.write_sheet.proofs.Held.{version-byte, stated-below, sound-most, sound-count, sound-text, sheet-parts, body-parts, wrote-sheet}
use Rattle.write_tables.proofs.Texts.{wrote-whole}
use Rattle.write_sheet.proofs.writing.write_into.Statement.{statement}
use Rattle.write_sheet.proofs.writing.write_into.Tie as tie

shaped : (c : tie.Start) → HeadShaped c.args.head
shaped c = search shape

abbrev start : tie.After-fixed_by-bytes → tie.Start
start c = c.before.before

text : (c : tie.After-fixed_by-bytes)
    → let a = (start c).args in
    let h = a.head in
    bytes_held a.version h a.rows.now ≡ sheet_text 32 c.fixed_by-bytes.result.bytes (row_of 32 a.rows.now) a.version h.n h.sizes h.stated
text c =
    let s = start c in
    sound-text _ (shaped s) s.requires.0.0 s.args.version s.requires.0.1 s.requires.0.2 _ c.fixed_by-bytes.ensures.bytes_are

-- The length told: as many bytes as the parts have, at most 15621, and within the buffer.
bytes : (c : tie.After-fixed_by-bytes)
    → let a = (start c).args in
    let h = a.head in
    let k = c.fixed_by-bytes.result.bytes in
    let row = row_of 32 a.rows.now in
    let body = length (body_text 32 k row h.n h.sizes h.stated) in
    (h.n ≤ variables)
    × (a.extent.length ≡ 3 + body)
    × (body ≡ 2 + length (sizes_text h.n h.sizes) + length (tables_text k row h.n h.sizes h.stated))
    × (a.extent.length ≤ 15621)
    × (a.extent.length ≤ length a.buffer.now)
bytes c =
    let s = start c in
    let a = s.args in
    let h = a.head in
    let most = sound-most _ (shaped s) s.requires.0.0 a.version s.requires.0.1 s.requires.0.2 in (
      held-n _ _ s.requires.0.0,
      s.requires.1.0.0 ∙ ap length (text c) ∙ sheet-parts _ _ h.n h.sizes h.stated a.version,
      body-parts _ _ h.n h.sizes h.stated,
      omega (arith, s.requires.1.0.0),
      s.requires.1.1,
    )

sub-follow : tie.Need-overflow_sub-follow
sub-follow c = omega (arith, bytes c.before)

cast-follow : tie.Need-overflow_cast-follow
cast-follow c = omega (arith, bytes c.before)

cast-write-header : tie.Need-overflow_cast-version
cast-write-header c =
    let s = start c.before in omega (arith, version-byte _ (shaped s) s.requires.0.0 s.args.version s.requires.0.1 s.requires.0.2)

cast-write-header-2 : tie.Need-overflow_cast-n
cast-write-header-2 c = omega (arith, bytes c.before)

write-header-requires : tie.Need-write_header-first_size-requires
write-header-requires c κs = omega (arith, bytes c.before.before)

abbrev headed : tie.After-write_sizes-arg-2-1 → tie.After-write_header-first_size
headed c = c.before.before.before.before

abbrev fixed : tie.After-write_header-first_size → tie.After-fixed_by-bytes
fixed c = c.before.before.before

write-sizes-requires : tie.Need-write_sizes-past_sizes-requires
unfolding bytes_of
write-sizes-requires c κs = let p = bytes (fixed (headed c)) in search rules

abbrev sized : tie.After-struct_known-2-1 → tie.After-write_sizes-past_sizes
sized c = c.before.before.before.before

cast-put-byte : tie.Need-overflow_cast-extent
cast-put-byte c =
    let s = start (fixed (headed (sized c).before)) in
    omega (arith, s.requires.1.0.1, sound-count _ (shaped s) s.requires.0.0 s.args.version s.requires.0.1 s.requires.0.2)

put-byte-requires : tie.Need-put_byte-first_table-requires
unfolding bytes_of
put-byte-requires c κs = omega (arith, bytes (fixed (headed (sized c).before)))

write-tables-requires : tie.Need-write_tables-requires
unfolding bytes_of
write-tables-requires c κs =
    let byte = c in
    let sizes = sized c.before.before.before.before.before.before in
    let header = headed sizes.before in
    let f = fixed header in
    let small : (i : ℕ) → get_or (start f).args.head.sizes i 0 ≤ width = λ i. omega (arith, held-size _ _ (shaped (start f)) (start f).requires.0.0 i) in
    let below = stated-below _ (shaped (start f)) (start f).requires.0.0 in
    search (rules, below, bytes f, f.fixed_by-bytes.ensures, header.write_header-first_size.ensures, sizes.write_sizes-past_sizes.ensures, byte.put_byte-first_table.ensures)

returns : tie.Need-returns
returns c =
    let byte = c in
    let sizes = sized c.before.before.before.before.before.before.before.before.before in
    let header = headed sizes.before in
    let f = fixed header in
    let h = (start f).args.head in
    rw (text f)
    (wrote-whole (wrote-sheet _ _ h.n h.sizes h.stated (omega (arith, bytes f)) (start f).requires.1.0.1 header.write_header-first_size.ensures
    sizes.write_sizes-past_sizes.ensures byte.put_byte-first_table.ensures c.write_tables.ensures))

pub write_into_spec : {M : Type 1} → statement M
write_into_spec =
    tie.close
    (tie.spec
    (λ c κs. search rules)
    sub-follow
    cast-follow
    cast-write-header
    cast-write-header-2
    write-header-requires
    write-sizes-requires
    cast-put-byte
    put-byte-requires
    write-tables-requires
    (λ c. search rules)
    returns)
