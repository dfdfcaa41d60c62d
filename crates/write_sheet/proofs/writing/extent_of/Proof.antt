-- The loop's invariant: the tables whose first variable is below `i` are counted, and their bytes. The count of bytes is the sheet's: `length-held`.
use mathlib.Core.Path.{◌≡◌, ◌∙◌, ap}
use Prim.Native.Nat.{ℕ, ◌+◌, ◌-◌, ◌*◌, ◌≤◌}
use native.Mathlib.Omega.{arith}
use lib.ListN.{get_or}
use borrow.Author.Rules.{rules}
use Rattle.write_tables.specs.Texts.{count_of_tables, tables_length, sheet_length}
use Rattle.write_sheet.proofs.Held.{count_none, count-more, bytes-none, bytes-more, length-held}
use Rattle.write_sheet.proofs.writing.extent_of.Statement.{statement}
use Rattle.write_sheet.proofs.writing.extent_of.Tie as tie

abbrev invariant-loop : tie.invariant-loop-i
invariant-loop bytes n sizes stated length₀ tables₀ i₀ length tables i =
    (i ≤ n) × (length ≡ 5 + n + tables_length 32 bytes i sizes stated) × (length ≤ 21 + 32768 * i) × (tables ≡ count_of_tables 32 i stated) × (tables ≤ 32 * i)

abbrev decreases-loop : tie.decreases-loop-i
decreases-loop bytes n sizes stated length₀ tables₀ i₀ length tables i = n - i

loop-holds : tie.Need-loop-i-init invariant-loop decreases-loop
loop-holds c =
    let bytes = bytes-none c.args.bytes c.args.sizes.now c.args.stated.now in
    let count = count_none c.args.stated.now in
    (omega arith, omega arith, omega arith, omega arith, omega arith)

loop-again : tie.Need-loop-i-preserved invariant-loop decreases-loop
loop-again c =
    let later = c in
    let at-loop = later in
    let args = at-loop.args in
    let i = at-loop.loop-i.i in
    let bytes = bytes-more args.bytes args.sizes.now args.stated.now i in
    let count = count-more i args.stated.now in
    let own = c.tables_length-length.ensures.0 ∙ ap (λ (k : ℕ). (2 + args.bytes * get_or args.sizes.now i 0) * k) later.later-more.ensures.0 in
    (omega arith, omega arith, omega arith, omega arith, omega arith)

returns : tie.Need-returns invariant-loop decreases-loop
unfolding sheet_length
returns c =
    let s = c in
    let inv = c.loop-i.invariant in (
      λ L h rows k n sizes stated.
          let e : c.loop-i.i ≡ h.n = omega arith in
          let counted = rw (e, ← sizes, ← stated, ← k) at inv.1 in
          let held = length-held L h rows (omega (arith, s.requires.1)) (rw (stated, n) s.requires.2) in
          omega arith,
      rw (let e : c.loop-i.i ≡ s.args.n = omega arith in e) at inv.3,
    )

pub extent_of_spec : {M : Type 1} → statement M
extent_of_spec =
    tie.close
    (tie.spec
    invariant-loop
    decreases-loop
    (λ c. search rules)
    loop-holds
    (λ c. search rules)
    (λ c. search rules)
    (λ c κs. search rules)
    (λ c. search rules)
    (λ c κs. search rules)
    (λ c. search rules)
    (λ c. search rules)
    (λ c. search rules)
    (λ c. search rules)
    loop-again
    returns)
