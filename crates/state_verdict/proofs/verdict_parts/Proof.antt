-- Of a state that is not sound there is no verdict; of a sound one it is that of `verdict_of`.
use mathlib.Core.Path.{sym, ◌∙◌}
use borrow.Author.Rules.{rules}
use borrow.Author.Tests.{not-true, not-false}
use Rattle.answers.specs.Answers.{verdict_told}
use Rattle.state.proofs.Solutions.{verdict-refused}
use Rattle.state_verdict.proofs.verdict_parts.Statement.{statement}
use Rattle.state_verdict.proofs.verdict_parts.Tie as tie

returns : tie.Need-returns-then-not-sound_parts
unfolding verdict_told
returns c = sym (verdict-refused _ (sym c.sound_parts.ensures ∙ c.if-not-sound_parts.true))

verdict-of-requires : tie.Need-verdict_of-requires
verdict-of-requires c κs = sym c.sound_parts.ensures ∙ c.if-not-sound_parts.false

pub verdict_parts_spec : {M : Type 1} → statement M
verdict_parts_spec = tie.close (tie.spec (λ c κs. search rules) returns verdict-of-requires (λ c. search rules))
