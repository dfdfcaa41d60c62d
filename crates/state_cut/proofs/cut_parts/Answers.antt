-- Either case of reading: `cut-refused`, or `cut-accepted` over a state that is known to be sound.
use Rattle.std.proofs.Common.{rules}
use Rattle.answers.specs.Answers.{number_read, read_place}
use Rattle.state.proofs.WorkedOut.{reduction-told}
use Rattle.state_cut.specs.Parts.{cut_parts_told}
use Rattle.state_cut.proofs.Cuts.{cut-refused, cut-read, cut-sound, cut-accepted}
use Rattle.state_cut.proofs.cut_parts.Goals as goal

pub reduce_sound-cut-requires : goal.reduce_sound-cut-requires
reduce_sound-cut-requires c = let r = cut-read _ _ _ c.in-Ok.ensures (search rules) in (r.read_shaped.rows_shaped, r.is_sound)

pub verdict_of-verdict-requires : goal.verdict_of-verdict-requires
verdict_of-verdict-requires c =
    let told = c.in-Ok.ensures in
    let r = cut-read _ _ _ told (search rules) in
    cut-sound _ _ _ told r (reduction-told _ _ r.is_sound c.reduce_sound-cut.ensures)

pub returns-in-Ok : goal.returns-in-Ok
unfolding cut_parts_told number_read read_place
returns-in-Ok c =
    let told = c.in-Ok.ensures in
    let r = cut-read _ _ _ told (search rules) in
    cut-accepted _ _ _ told r (reduction-told _ _ r.is_sound c.reduce_sound-cut.ensures) c.verdict_of-verdict.ensures

pub returns-in-Err : goal.returns-in-Err
returns-in-Err c = rw c.zero_head.ensures (cut-refused _ _ _ c.in-Err.ensures)
