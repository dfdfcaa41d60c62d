-- By the kind.
use mathlib.Core.Path.{sym, ap}
use Rattle.year_entries.specs.Year.{amount_of}
use Rattle.year_entries.proofs.Lines.{is-delivery, is-call-off}
use borrow.Author.Rules.{rules}
use Rattle.year_act.proofs.amount.Statement.{statement}
use Rattle.year_act.proofs.amount.Tie as tie

returns : tie.Need-returns-then-l-eq1
returns c = sym (ap amount_of (is-delivery c.args.l c.if-l-eq1.true))

returns-2 : tie.Need-returns
returns-2 c = sym (ap amount_of (is-call-off c.args.l c.if-l-eq1.false))

pub amount_spec : {M : Type 1} → statement M
amount_spec =
    tie.close
    (tie.spec
    (λ c. search rules)
    returns
    (λ c. search rules)
    returns-2)
