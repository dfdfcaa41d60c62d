-- A part of the array, or all of it. It has as many bytes as the limit says.
use mathlib.Core.Path.{sym}
use native.Mathlib.Omega.{arith}
use borrow.Author.Rules.{rules}
use lib.Seq.{take_all, length-take-le}
use Rattle.text_report.proofs.Limit.{limit_is}
use Rattle.text_report.proofs.input.report_input.Statement.{statement}
use Rattle.text_report.proofs.input.report_input.Tie as tie

slice-aggregate-report : tie.Need-slice_bounds-report-end
slice-aggregate-report c = sym (length-take-le _ _ (omega arith))

returns : tie.Need-returns-then-count-lt-INPUT
returns c = (omega (arith, limit_is), c.report.ensures)

returns-2 : tie.Need-returns
returns-2 c =
    let s = c in
    (omega (arith, limit_is), rw (take_all s.args.count s.args.input (omega arith)) c.report-2.ensures)

pub report_input_spec : {M : Type 1} → statement M
report_input_spec =
    tie.close
    (tie.spec
    (λ c. search rules)
    slice-aggregate-report
    (λ c κs. search rules)
    returns
    (λ c. search rules)
    (λ c κs. search rules)
    returns-2)
