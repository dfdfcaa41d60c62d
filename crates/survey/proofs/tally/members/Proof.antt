-- All members are below the width and below the size.
use mathlib.Core.Path.{◌∙◌, sym}
use native.Mathlib.Omega.{arith}
use borrow.Author.Rules.{rules}
use Rattle.bounded.proofs.Fold.{count-le}
use Rattle.words.specs.Word.{width, has}
use Rattle.survey.proofs.Tallying.{count-sizes}
use Rattle.survey.proofs.tally.members.Statement.{statement}
use Rattle.survey.proofs.tally.members.Tie as tie

returns : tie.Need-returns
returns c =
    let s = c in
    (omega (arith, c.count.ensures, count-le width (has s.args.x)), λ size within. c.count.ensures ∙ sym (count-sizes _ size s.ranges.x.fits within))

pub members_spec : {M : Type 1} → statement M
members_spec = tie.close (tie.spec (λ c κs. search rules) returns)
