-- Each way through the call is a case of the definition: a refusal, by its number, or the bytes written.
use mathlib.Core.Bool.{true}
use mathlib.Core.Path.{◌≡◌, refl, sym, ◌∙◌}
use Prim.Native.Nat.{◌≤◌}
use native.Mathlib.Omega.{arith}
use lib.ListN.{length}
use borrow.Author.Rules.{rules}
use borrow.Author.Tests.{not-true, not-false}
use Rattle.network.specs.Network.{Network}
use Rattle.network.specs.Sheet.{fresh}
use Rattle.head.specs.Held.{held, sound_in}
use Rattle.head.proofs.Held.{HeadShaped, shape, held-n, held-size}
use Rattle.format.specs.Layout.{layout_of}
use Rattle.format.specs.Writable.{fits_version, rows_pass}
use Rattle.write_sheet.specs.Writing.{bytes_held}
use Rattle.write_sheet.proofs.Held.{stated-below, length-told}
use Rattle.state.specs.Write.{sheet_bytes}
use Rattle.state_read.proofs.RoundTrip.{write-unsound, write-not-fresh, write-not-in-version, write-blank-row, write-no-room}
use Rattle.state_write.proofs.Written.{fresh-told, refused-told, written-told}
use Rattle.state_write.proofs.write_parts.Statement.{statement}
use Rattle.state_write.proofs.write_parts.Tie as tie

shaped : (c : tie.Start) → HeadShaped c.args.head
shaped c = search shape

abbrev start : tie.Else-not-sound_parts → tie.Start
start c = c.before.before.before

is_sound : (c : tie.Else-not-sound_parts) → sound_in (start c).args.head (start c).args.rows.now ≡ true
is_sound c = sym c.sound_parts.ensures ∙ c.if-not-sound_parts.false

-- What is measured of a sound state: whether it is fresh, whether it fits the version, whether that takes its rows, and, where it does, how many bytes its
-- sheet has.
abbrev fixed : tie.After-extent_of-extent → tie.After-fixed_by-bytes
fixed c = c.before.before.before

abbrev passed : tie.After-extent_of-extent → tie.After-rows_pass-passes
passed c = (fixed c).before

abbrev tested : tie.After-extent_of-extent → tie.After-fits_version-fits
tested c = (passed c).before

abbrev past : tie.After-extent_of-extent → tie.After-fresh_parts-fresh
past c = (tested c).before.before

abbrev sound : tie.After-extent_of-extent → tie.Else-not-sound_parts
sound c = (past c).before

abbrev told : tie.After-extent_of-extent → Network
told c = let a = (start (sound c)).args in held a.head a.rows.now

fresh-measured : (c : tie.After-extent_of-extent) → fresh (told c) ≡ (past c).fresh_parts-fresh.result
fresh-measured c = let e = sound c in fresh-told _ (shaped (start e)) (is_sound e) ∙ sym (past c).fresh_parts-fresh.ensures

fits-measured : (c : tie.After-extent_of-extent) → fits_version (layout_of (start (sound c)).args.version) (told c) ≡ (tested c).fits_version-fits.result
fits-measured c = let a = (start (sound c)).args in sym ((tested c).fits_version-fits.ensures a.head a.rows.now refl refl)

pass-measured : (c : tie.After-extent_of-extent) → rows_pass (layout_of (start (sound c)).args.version) (told c) ≡ (passed c).rows_pass-passes.result
pass-measured c = sym (passed c).rows_pass-passes.ensures

length-measured : (c : tie.After-extent_of-extent) → fits_version (layout_of (start (sound c)).args.version) (told c) ≡ true
    → rows_pass (layout_of (start (sound c)).args.version) (told c) ≡ true
    → let a = (start (sound c)).args in c.extent_of-extent.result.length ≡ length (bytes_held a.version a.head a.rows.now)
length-measured c v p =
    let e = sound c in
    length-told _ (shaped (start e)) (is_sound e) _ v p (fixed c).fixed_by-bytes.ensures.bytes_are c.extent_of-extent.ensures.0

-- Past the second test it is fresh, past the third it fits, past the fourth its rows pass, and past the fifth there is room.
is_fresh : (c : tie.Else-not-fresh) → fresh (told c.before) ≡ true
is_fresh c = fresh-measured c.before ∙ c.if-not-fresh.false

fits : (c : tie.Else-not-fits) → let m = c.before.before in fits_version (layout_of (start (sound m)).args.version) (told m) ≡ true
fits c = fits-measured c.before.before ∙ c.if-not-fits.false

pass : (c : tie.Else-not-passes) → let m = c.before.before.before in rows_pass (layout_of (start (sound m)).args.version) (told m) ≡ true
pass c = pass-measured c.before.before.before ∙ c.if-not-passes.false

room : (c : tie.Else-buffer-length)
    → let a = (start (sound c.before.before.before.before)).args in length (bytes_held a.version a.head a.rows.now) ≤ length a.buffer.now
room c = let p = c in omega (arith, c.if-buffer-length.false, length-measured c.before.before.before.before (fits c.before.before) (pass c.before))

returns : tie.Need-returns-then-not-sound_parts
returns c = refused-told _ _ _ (write-unsound _ _ _ (sym c.sound_parts.ensures ∙ c.if-not-sound_parts.true))

fresh-parts-requires : tie.Need-fresh_parts-fresh-requires
fresh-parts-requires c κs = (held-n _ _ (is_sound c), λ i. omega (arith, held-size _ _ (shaped (start c)) (is_sound c) i))

fits-version-requires : tie.Need-fits_version-fits-requires
fits-version-requires c κs = held-n _ _ (is_sound c.before.before)

rows-pass-requires : tie.Need-rows_pass-passes-requires
rows-pass-requires c κs = is_sound c.before.before.before

extent-of-requires : tie.Need-extent_of-extent-requires
extent-of-requires c κs =
    let f = c in
    let e = f in
    (f.fixed_by-bytes.ensures.bytes_most, held-n _ _ (is_sound c.before.before.before.before.before.before.before), stated-below _ (shaped (start c.before.before.before.before.before.before.before)) (is_sound c.before.before.before.before.before.before.before))

returns-2 : tie.Need-returns-then-not-fresh
returns-2 c =
    let m = c in refused-told _ _ _ (write-not-fresh _ _ _ (is_sound (sound c.before)) (fresh-measured c.before ∙ c.if-not-fresh.true))

returns-3 : tie.Need-returns-then-not-fits
returns-3 c =
    let m = c.before.before in
    refused-told _ _ _ (write-not-in-version _ _ _ (is_sound (sound c.before.before)) (is_fresh c.before) (fits-measured c.before.before ∙ c.if-not-fits.true))

returns-4 : tie.Need-returns-then-not-passes
returns-4 c =
    let t = c in
    let m = t in
    refused-told _ _ _ (write-blank-row _ _ _ (is_sound (sound c.before.before.before)) (is_fresh c.before.before) (fits c.before) (pass-measured c.before.before.before ∙ c.if-not-passes.true))

returns-5 : tie.Need-returns-then-buffer-length
unfolding bytes_held sheet_bytes
returns-5 c =
    let p = c in
    let t = p in
    let m = t in
    refused-told _ _ _ (write-no-room _ _ _ (is_sound (sound c.before.before.before.before)) (is_fresh c.before.before.before) (fits c.before.before) (pass c.before)
    (omega (arith, c.if-buffer-length.true, length-measured c.before.before.before.before (fits c.before.before) (pass c.before))))

write-into-requires : tie.Need-write_into-requires
write-into-requires c κs =
    let p = c in
    let t = p in
    let m = t in
    ((is_sound (sound c.before.before.before.before.before), fits c.before.before.before, pass c.before.before), ((length-measured c.before.before.before.before.before (fits c.before.before.before) (pass c.before.before), m.extent_of-extent.ensures.1), c.if-buffer-length.false))

returns-6 : tie.Need-returns
returns-6 c =
    let w = c in
    let r = w in
    let p = r in
    let t = p in
    written-told _ _ _ (is_sound (sound c.before.before.before.before.before.before.before.before)) (is_fresh c.before.before.before.before.before.before.before) (fits c.before.before.before.before.before.before) (pass c.before.before.before.before.before) (room c.before.before.before.before) w.write_into.ensures.0
    w.write_into.ensures.1

pub write_parts_spec : {M : Type 1} → statement M
write_parts_spec =
    tie.close
    (tie.spec
    (λ c κs. search rules)
    returns
    fresh-parts-requires
    fits-version-requires
    rows-pass-requires
    (λ c κs. search rules)
    extent-of-requires
    returns-2
    returns-3
    returns-4
    returns-5
    write-into-requires
    (λ c. search rules)
    returns-6)
