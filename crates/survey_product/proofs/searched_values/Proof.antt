-- A case for each of the four kinds of variable.
use mathlib.Core.Bool.{true}
use mathlib.Core.Path.{◌≡◌, sym, ◌∙◌}
use borrow.Author.Rules.{rules}
use Rattle.words.specs.Word.{has}
use Rattle.survey_product.proofs.Ties.{searched-led, searched-tied, searched-empty, searched-open}
use Rattle.survey_product.proofs.searched_values.Statement.{statement}
use Rattle.survey_product.proofs.searched_values.Tie as tie

returns : tie.Need-returns-then-not-member
returns c = searched-led _ _ _ _ (sym c.member.ensures ∙ c.if-not-member.true)

is_free : (c : tie.After-member-2) → has c.args.free c.args.i ≡ true
is_free c = sym c.member.ensures ∙ c.if-not-member.false

returns-2 : tie.Need-returns-then-member
returns-2 c =
    let m = c in
    c.count.ensures ∙ searched-tied _ _ _ _ (is_free c.before.before) (sym m.member-2.ensures ∙ c.if-member.true)

returns-3 : tie.Need-returns-then-domain-eq0
returns-3 c =
    let m = c in
    searched-empty _ _ _ _ (is_free c.before.before) (sym m.member-2.ensures ∙ c.if-member.false) c.if-domain-eq0.true

returns-4 : tie.Need-returns
returns-4 c =
    let m = c in
    searched-open _ _ _ _ (is_free c.before.before) (sym m.member-2.ensures ∙ c.if-member.false) m.ranges.domain.fits c.if-domain-eq0.false

pub searched_values_spec : {M : Type 1} → statement M
searched_values_spec =
    tie.close
    (tie.spec
    (λ c κs. search rules)
    returns
    (λ c κs. search rules)
    (λ c κs. search rules)
    returns-2
    returns-3
    returns-4)
