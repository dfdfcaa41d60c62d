-- The head and the rows are those of the state.
use borrow.Author.Rules.{rules}
use Rattle.sheet.proofs.states.is_sound.Statement.{statement}
use Rattle.sheet.proofs.states.is_sound.Tie as tie

returns : tie.Need-returns
returns c =
    let d = c in
    rw d.head_in.ensures at c.sound_parts.ensures

pub is_sound_spec : {M : Type 1} → statement M
is_sound_spec = tie.close (tie.spec (λ c κs. search rules) (λ c κs. search rules) returns)
