-- A pair that is not stated has no table; else `rows_filled`.
use mathlib.Core.Path.{sym, ◌∙◌}
use borrow.Author.Rules.{rules}
use Rattle.bounded.proofs.Bool.{implies_true, implies-false}
use Rattle.write_version.specs.Filled.{pair_filled}
use Rattle.write_version.proofs.Filled.{rows_filled}
use Rattle.write_version.proofs.blank.pair_filled.Statement.{statement}
use Rattle.write_version.proofs.blank.pair_filled.Tie as tie

returns : tie.Need-returns-then-not-member
unfolding pair_filled
returns c = sym (implies-false _ _ (sym c.member.ensures ∙ c.if-not-member.true))

returns-2 : tie.Need-returns
unfolding pair_filled
returns-2 c =
    let w = c in
    let p = w in
    let e = p in
    rows_filled 32 _ _ _ e.requires.0 (rw w.wide.ensures at c.full-2.ensures) p.full.ensures p.partners-partners.ensures
    c.without.ensures
    ∙ sym (implies_true _ _ (sym e.member.ensures ∙ e.if-not-member.false))

pub pair_filled_spec : {M : Type 1} → statement M
pair_filled_spec =
    tie.close
    (tie.spec
    (λ c κs. search rules)
    returns
    (λ c κs. search rules)
    (λ c κs. search rules)
    (λ c κs. search rules)
    (λ c κs. search rules)
    (λ c κs. search rules)
    returns-2)
