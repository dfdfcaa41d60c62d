-- A row for each cell.
use borrow.Author.Rules.{rules}
use Rattle.bounded.specs.Table.{tabulate}
use Rattle.meter_rule.specs.PageNine.{capacities, page_nine}
use Rattle.meter_rule.proofs.page_nine.Statement.{statement}
use Rattle.meter_rule.proofs.page_nine.Tie as tie

returns : tie.Need-returns
unfolding page_nine tabulate capacities
returns c = search rules

pub page_nine_spec : {M : Type 1} → statement M
page_nine_spec = tie.close (tie.spec (λ c κs. search rules) (λ c κs. search rules) (λ c κs. search rules) (λ c κs. search rules) returns)
