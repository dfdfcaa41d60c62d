-- Past the width neither word has a member.
use mathlib.Core.Path.{◌∙◌, ap}
use borrow.Author.Rules.{rules}
use Prim.Native.Nat.{ℕ}
use Rattle.bounded.proofs.Bool.{or-false-i}
use Rattle.words.specs.Word.{width, has}
use Rattle.words.proofs.Laws.{has_all, has-past}
use Rattle.survey.proofs.tally.joined.Statement.{statement}
use Rattle.survey.proofs.tally.joined.Tie as tie

returns : tie.Need-returns
returns c u =
    let s = c in
    ap (λ (n : ℕ). has n u) c.either.ensures
    ∙ has_all width _ u (λ b. or-false-i _ _ (has-past width _ u s.ranges.x.fits b) (has-past width _ u s.ranges.y.fits b))

pub joined_spec : {M : Type 1} → statement M
joined_spec = tie.close (tie.spec (λ c κs. search rules) returns)
