-- The length first, then the version, then the body in the layout of the version.
use mathlib.Core.Bool.{false}
use mathlib.Core.Path.{◌≡◌, sym, ◌∙◌}
use Rattle.format.specs.Layout.{version1, version2, version3}
use Rattle.format.specs.Parse.{wrong_length}
use Rattle.format.proofs.Layouts.{version1-found, version2-found, version3-found}
use Rattle.read_sheet.proofs.Into.{into-wrong-length, some_byte, into-wrong-version, into-body}
use borrow.Author.Rules.{rules}
use Rattle.read_sheet.proofs.read_into.Statement.{statement}
use Rattle.read_sheet.proofs.read_into.Tie as tie

-- The length is right.
right-length : (c : tie.Else-wrong_length) → wrong_length c.args.bytes.now ≡ false
right-length c = sym c.wrong_length.ensures ∙ c.if-wrong_length.false

returns : tie.Need-returns-then-wrong_length
returns c = into-wrong-length _ (sym c.wrong_length.ensures ∙ c.if-wrong_length.true)

shared-slice-read-version : tie.Need-bounds-bytes-0
shared-slice-read-version c = some_byte _ (right-length c.before)

returns-2 : tie.Need-returns-then-version-eq1
unfolding version1
returns-2 c =
    let version = c in
    into-body _ (right-length c.before.before.before.before.before.before) version1 (version1-found _ version.if-version-eq1.true) c.read_body.ensures

returns-3 : tie.Need-returns-then-version-eq2
unfolding version2
returns-3 c =
    let version = c in
    into-body _ (right-length c.before.before.before.before.before.before.before) version2 (version2-found _ version.if-version-eq2.true) c.read_body-then-version-eq2.ensures

returns-5 : tie.Need-returns
returns-5 c =
    let right : wrong_length c.args.bytes.now ≡ false = sym c.wrong_length.ensures ∙ c.if-wrong_length.false in
    into-wrong-version _ right c.if-version-eq1.false c.if-version-eq2.false (search rules)

pub read_into_spec : {M : Type 1} → statement M
unfolding version3
read_into_spec =
    tie.close
    (tie.spec
    (λ c κs. search rules)
    returns
    shared-slice-read-version
    (λ c κs. search rules)
    returns-2
    (λ c κs. search rules)
    returns-3
    (λ c κs. search rules)
    (λ c.
    let right : wrong_length c.args.bytes.now ≡ false = sym c.wrong_length.ensures ∙ c.if-wrong_length.false in
    into-body _ right version3 (version3-found _ (search rules)) (search rules))
    returns-5)
