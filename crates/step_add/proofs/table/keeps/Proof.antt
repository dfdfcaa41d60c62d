-- A value outside the domain does not stay, and another does where the table allows its two partners: `kept-one`.
use mathlib.Core.Bool.{true}
use mathlib.Core.Path.{◌≡◌, sym, ◌∙◌}
use Prim.Native.Nat.{◌<◌}
use lib.ListN.{length}
use borrow.Author.Rules.{rules}
use Rattle.bounded.proofs.Bool.{and-fails}
use Rattle.words.specs.Word.{has}
use Rattle.step_sides.specs.Sides.{kept_at}
use Rattle.step_sides.proofs.Cut.{kept-one}
use Rattle.step_add.proofs.table.keeps.Statement.{statement}
use Rattle.step_add.proofs.table.keeps.Tie as tie

returns : tie.Need-returns-then-not-member
unfolding kept_at
returns c = sym (and-fails _ _ (sym c.member.ensures ∙ c.if-not-member.true))

in-domain : (c : tie.Else-not-member) → has c.args.first.values c.args.a ≡ true
in-domain c = sym c.member.ensures ∙ c.if-not-member.false

-- The first partner has a row of the table.
row_of : (c : tie.After-partner-c) → c.partner-c.result < length c.args.table.now
row_of c = rw c.partner-c.ensures (c.requires.3 _ (in-domain c.before))

mul-member : tie.Need-offset_bounds-table-c
mul-member c = let l = row_of c.before in search rules

shared-slice-read-member : tie.Need-bounds-table-c
shared-slice-read-member c = row_of c.before.before

member-requires-2 : tie.Need-member-requires-2
member-requires-2 c κs =
    let e = c in
    rw c.partner-d.ensures (e.requires.4 _ (in-domain c.before.before.before)).0

returns-2 : tie.Need-returns
returns-2 c =
    let second = c in
    let first = second in
    let e = first in
    let s = e in
    kept-one 32 _ _ s.args.first s.args.second _ (in-domain c.before.before.before.before) (s.requires.4 _ (in-domain c.before.before.before.before)).1 first.partner-c.ensures second.partner-d.ensures
    c.member-2.ensures

pub keeps_spec : {M : Type 1} → statement M
keeps_spec =
    tie.close
    (tie.spec
    (λ c κs. search rules)
    returns
    (λ c κs. search rules)
    (λ c κs. search rules)
    mul-member
    shared-slice-read-member
    member-requires-2
    returns-2)
