-- Each kind of leader has its search.
use mathlib.Core.Path.{sym, ◌∙◌}
use borrow.Author.Rules.{rules}
use Rattle.step_choice.proofs.Searching.{leads-lowest, leads-named}
use Rattle.step_choice.proofs.next_step.Statement.{statement}
use Rattle.step_choice.proofs.next_step.Tie as tie

returns : tie.Need-returns-in-Lowest
returns c = c.next_pair.ensures ∙ leads-lowest _ (sym c.in-Lowest.is)

returns-2 : tie.Need-returns-in-Named
returns-2 c = c.next_follower.ensures ∙ leads-named _ (sym c.in-Named.is)

pub next_step_spec : {M : Type 1} → statement M
next_step_spec =
    tie.close (tie.spec (λ c. search rules) (λ c κs. search rules) (λ c. search rules) (λ c κs. search rules) returns returns-2)
