-- Each way through the test is a case of the definition.
use mathlib.Core.Path.{sym, ap, ◌∙◌}
use lib.Dec.{eqb}
use Rattle.soundness_head.specs.Fits.{within}
use Rattle.soundness_head.proofs.Tests.{variable-past, variable-high, variable-self, variable-told}
use borrow.Author.Rules.{rules}
use Rattle.soundness_head.proofs.variable_sound.Statement.{statement}
use Rattle.soundness_head.proofs.variable_sound.Tie as tie

returns : tie.Need-returns-then-n-i
returns c = variable-past _ _ _ c.if-n-i.true

returns-2 : tie.Need-returns-then-not-within
unfolding within
returns-2 c = variable-high _ _ _ c.if-n-i.false (sym c.within.ensures ∙ c.if-not-within.true)

returns-3 : tie.Need-returns-then-member
unfolding within
returns-3 c =
    variable-self _ _ _ c.if-n-i.false
    (sym c.within.ensures ∙ c.if-not-within.false)
    (sym c.member.ensures ∙ c.if-member.true)

returns-4 : tie.Need-returns
unfolding within
returns-4 c = ap (eqb _) c.stated_with.ensures
    ∙ variable-told _ _ _ c.if-n-i.false
    (sym c.within.ensures ∙ c.if-not-within.false)
    (sym c.member.ensures ∙ c.if-member.false)

pub variable_sound_spec : {M : Type 1} → statement M
variable_sound_spec =
    tie.close
    (tie.spec
    (λ c. search rules)
    (λ c. search rules)
    returns
    (λ c κs. search rules)
    returns-2
    (λ c κs. search rules)
    returns-3
    (λ c κs. search rules)
    returns-4)
