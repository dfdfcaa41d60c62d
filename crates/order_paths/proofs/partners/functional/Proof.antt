-- One value decides, or no value of the domain is among those with two partners: `none-crowded`.
use mathlib.Core.Path.{sym}
use borrow.Author.Rules.{rules}
use Rattle.order_paths.proofs.Crowded.{none-crowded}
use Rattle.order_paths.proofs.partners.functional.Statement.{statement}
use Rattle.order_paths.proofs.partners.functional.Tie as tie

returns : tie.Need-returns-then-lowest_crowded
returns c = sym (c.lowest_crowded.ensures c.if-lowest_crowded.true)

returns-2 : tie.Need-returns-then-i-j
returns-2 c = none-crowded 32 _ _ _ _ _ c.crowded_up.ensures c.both.ensures

pub functional_spec : {M : Type 1} → statement M
functional_spec =
    tie.close
    (tie.spec
    (λ c κs. search rules)
    returns
    (λ c κs. search rules)
    (λ c κs. search rules)
    returns-2
    (λ c κs. search rules)
    (λ c. search rules))
