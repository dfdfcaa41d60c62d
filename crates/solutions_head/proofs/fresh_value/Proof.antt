-- A follower's domain is not looked at.
use mathlib.Core.Path.{ap, ◌∙◌}
use Prim.Native.Nat.{ℕ}
use lib.Dec.{ltb}
use Rattle.words.specs.Word.{width, word}
use Rattle.solutions.proofs.Choices.{fresh-led, fresh-live}
use borrow.Author.Rules.{rules}
use Rattle.solutions_head.proofs.fresh_value.Statement.{statement}
use Rattle.solutions_head.proofs.fresh_value.Tie as tie

returns : tie.Need-returns-then-leader-ne0
returns c = fresh-led 32 _ _ c.if-leader-ne0.true

returns-2 : tie.Need-returns
returns-2 c =
    fresh-live 32 _ _ c.if-leader-ne0.false
    (c.full.ensures ∙ ap (λ (k : ℕ). word width (λ (v : ℕ). ltb v k)) c.wide.ensures)

pub fresh_value_spec : {M : Type 1} → statement M
fresh_value_spec = tie.close (tie.spec returns (λ c κs. search rules) (λ c κs. search rules) returns-2)
