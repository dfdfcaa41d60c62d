-- Each way through the call is a case of the definition: `told_none` and the like.
use mathlib.Core.Bool.{true}
use mathlib.Core.Path.{◌≡◌, sym, ◌∙◌}
use borrow.Author.Rules.{rules}
use borrow.Author.Tests.{not-true, not-false}
use Rattle.head.proofs.Held.{HeadShaped, shape, held-n}
use Rattle.answers.specs.Answers.{verdict_told}
use Rattle.solutions.specs.Choices.{domains_open}
use Rattle.state_verdict.proofs.Verdicts.{told_none, told-open, told-built, lowest-led}
use Rattle.state_verdict.proofs.verdict_of.Statement.{statement}
use Rattle.state_verdict.proofs.verdict_of.Tie as tie

shaped : (c : tie.Start) → HeadShaped c.args.head
shaped c = search shape

abbrev start : tie.After-domains_open → tie.Start
start c = c.before.before.before

-- Past the first test each free variable has a value left.
left : (c : tie.Else-not-domains_open) → let h = (start c.before).args.head in domains_open h.n h.leaders h.domains ≡ true
left c = sym c.domains_open.ensures ∙ c.if-not-domains_open.false

domains-open-requires : tie.Need-domains_open-requires
domains-open-requires c κs = held-n _ _ c.requires

returns : tie.Need-returns-then-not-domains_open
unfolding verdict_told
returns c =
    let s = start c.before in
    told_none _ (shaped s) s.requires (sym c.domains_open.ensures ∙ c.if-not-domains_open.true)

free-apart-requires : tie.Need-free_apart-requires
free-apart-requires c κs = held-n _ _ (start c.before.before.before).requires

lowest-solution-requires : tie.Need-lowest_solution-requires
lowest-solution-requires c κs =
    let A : HeadShaped c.args.head = search shape in
    lowest-led _ A c.requires (sym c.domains_open.ensures ∙ c.if-not-domains_open.false)

returns-3 : tie.Need-returns
unfolding verdict_told
returns-3 c =
    let A : HeadShaped c.args.head = search shape in
    told-built _ A c.requires (sym c.domains_open.ensures ∙ c.if-not-domains_open.false) _ (search rules)
    (sym c.free_apart.ensures ∙ search rules) c.lowest_solution.ensures

pub verdict_of_spec : {M : Type 1} → statement M
unfolding verdict_told
verdict_of_spec =
    tie.close
    (tie.spec
    domains-open-requires
    returns
    free-apart-requires
    (λ c.
    let A : HeadShaped c.args.head = search shape in
    told-open _ A c.requires (sym c.domains_open.ensures ∙ c.if-not-domains_open.false) (sym c.free_apart.ensures ∙ search rules))
    lowest-solution-requires
    returns-3)
