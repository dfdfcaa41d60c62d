-- One value with two partners decides: `lowest-decides`.
use mathlib.Core.Path.{refl, sym, ◌∙◌}
use borrow.Author.Rules.{rules}
use Rattle.bounded.proofs.Bool.{clash}
use Rattle.pairs.proofs.Runs.{lowest-in}
use Rattle.order_paths.proofs.Crowded.{row-crowded, lowest-decides}
use Rattle.order_paths.proofs.partners.lowest_crowded.Statement.{statement}
use Rattle.order_paths.proofs.partners.lowest_crowded.Tie as tie

returns : tie.Need-returns-then-di-eq0
returns c = λ t. clash t refl

stored-row-requires : tie.Need-stored_row-requires
stored-row-requires c κs =
    let s = c in
    (s.requires.0, s.requires.1, (lowest-in 32 _ _ s.ranges.di.fits c.if-di-eq0.false c.lowest.ensures).0)

returns-2 : tie.Need-returns
returns-2 c =
    let b = c in
    let r = b in
    let l = r in
    λ t. lowest-decides 32 _ _ _ _ _ l.ranges.di.fits l.if-di-eq0.false l.lowest.ensures
    (sym (row-crowded 32 _ _ _ _ _ r.stored_row.ensures b.both.ensures c.crowded.ensures) ∙ t)

pub lowest_crowded_spec : {M : Type 1} → statement M
lowest_crowded_spec =
    tie.close
    (tie.spec
    returns
    (λ c κs. search rules)
    stored-row-requires
    (λ c κs. search rules)
    (λ c κs. search rules)
    returns-2)
