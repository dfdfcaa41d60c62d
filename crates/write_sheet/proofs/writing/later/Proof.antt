-- A count after a shift: `later-shifted`.
use mathlib.Core.Path.{◌∙◌}
use native.Mathlib.Omega.{arith}
use borrow.Author.Rules.{rules}
use Rattle.write_sheet.proofs.Held.{later-shifted, later-most}
use Rattle.write_sheet.proofs.writing.later.Statement.{statement}
use Rattle.write_sheet.proofs.writing.later.Tie as tie

returns : tie.Need-returns
returns c =
    let e = c.count.ensures ∙ later-shifted _ _ in (e, omega (arith, later-most c.args.x c.args.i))

pub later_spec : {M : Type 1} → statement M
later_spec =
    tie.close
    (tie.spec
    (λ c. search rules)
    (λ c. search rules)
    (λ c. search rules)
    (λ c κs. search rules)
    returns)
