-- The product does not overflow, and the place lies within the array: `past-le`.
use native.Mathlib.Omega.{arith}
use borrow.Author.Rules.{rules}
use Rattle.pairs.specs.Pairs.{slot}
use Rattle.soundness_rows.proofs.Tests.{past-le}
use Rattle.soundness_rows.proofs.Tests.{past_is}
use Rattle.soundness_rows.proofs.past_sound.Statement.{statement}
use Rattle.soundness_rows.proofs.past_sound.Tie as tie

returns : tie.Need-returns
unfolding slot
returns c = past_is 32 _ _ c.joined.ensures (omega arith)

pub past_sound_spec : {M : Type 1} → statement M
past_sound_spec =
    tie.close
    (tie.spec
    (λ c. search rules)
    (λ c. let h = past-le _ c.requires.1 in search rules)
    (λ c. let h = past-le _ c.requires.1 in search rules)
    (λ c κs. let h = past-le _ c.requires.1 in search rules)
    returns)
