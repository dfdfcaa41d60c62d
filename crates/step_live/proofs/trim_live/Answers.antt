use Rattle.std.proofs.Common.{arith}
use Rattle.head.proofs.Held.{HeadShaped, shape, held-n, held-sound}
use Rattle.solutions.specs.Choices.{free_word}
use Rattle.step_live.proofs.Live.{sound-led}
use Rattle.step_live.proofs.Turn.{trimming-none, trimming-end, turn_in, turn-self, turn-others, turn_more, turn-less}
use Rattle.step_live.proofs.trim_live.Goals as goal

pub loop-left-init : goal.loop-left-init
unfolding free_word
loop-left-init c =
    let A : HeadShaped c.args.head = search shape in
    let S = held-sound c.args.head c.args.rows.now A c.requires in
    let m = held-n c.args.head c.args.rows.now c.requires in
    trimming-none _ _ A S m c.free_variables-free.ensures

-- The variable taken is one of the 16.
pub offset_bounds-stated-j : goal.offset_bounds-stated-j
offset_bounds-stated-j c =
    let A : HeadShaped c.args.head = search shape in
    let S = held-sound c.args.head c.args.rows.now A c.requires in
    let m = held-n c.args.head c.args.rows.now c.requires in
    let l = turn_in _ _ A S m c.loop-left.invariant c.loop-left-test.true c.lowest-j.ensures in
    omega arith

pub bounds-stated-j : goal.bounds-stated-j
bounds-stated-j c =
    let A : HeadShaped c.args.head = search shape in
    let S = held-sound c.args.head c.args.rows.now A c.requires in
    let m = held-n c.args.head c.args.rows.now c.requires in
    turn_in _ _ A S m c.loop-left.invariant c.loop-left-test.true c.lowest-j.ensures

pub revise-changed-requires : goal.revise-changed-requires
unfolding free_word
revise-changed-requires c =
    let A : HeadShaped c.args.head = search shape in
    let S = held-sound c.args.head c.args.rows.now A c.requires in
    let m = held-n c.args.head c.args.rows.now c.requires in (
      turn_in _ _ A S m c.loop-left.invariant c.loop-left-test.true c.lowest-j.ensures,
      turn-self _ _ A S m c.loop-left.invariant c.loop-left-test.true c.lowest-j.ensures c.free_variables-free.ensures c.both.ensures,
      turn-others _ _ A S m c.loop-left.invariant c.loop-left-test.true c.lowest-j.ensures c.free_variables-free.ensures c.both.ensures,
      c.loop-left.invariant.shaped.array_length,
    )

pub loop-left-smaller : goal.loop-left-smaller
unfolding free_word
loop-left-smaller c =
    let A : HeadShaped c.args.head = search shape in
    let S = held-sound c.args.head c.args.rows.now A c.requires in
    let m = held-n c.args.head c.args.rows.now c.requires in
    turn-less _ _ A S m c.loop-left.invariant c.loop-left-test.true c.lowest-j.ensures c.free_variables-free.ensures c.both.ensures
    c.revise-changed.ensures.lists_are c.revise-changed.ensures.changed_are c.dropped.ensures c.either-left.ensures

pub loop-left-preserved : goal.loop-left-preserved
unfolding free_word
loop-left-preserved c =
    let A : HeadShaped c.args.head = search shape in
    let S = held-sound c.args.head c.args.rows.now A c.requires in
    let m = held-n c.args.head c.args.rows.now c.requires in
    turn_more _ _ A S m c.loop-left.invariant c.loop-left-test.true c.lowest-j.ensures c.free_variables-free.ensures c.both.ensures
    c.revise-changed.ensures.lists_are c.revise-changed.ensures.changed_are c.dropped.ensures c.either-left.ensures

pub trim_followers-trimmed-requires : goal.trim_followers-trimmed-requires
trim_followers-trimmed-requires c =
    let A : HeadShaped c.args.head = search shape in
    let S = held-sound c.args.head c.args.rows.now A c.requires in
    let m = held-n c.args.head c.args.rows.now c.requires in
    sound-led _ _ A S m

pub returns : goal.returns
returns c =
    let A : HeadShaped c.args.head = search shape in
    let S = held-sound c.args.head c.args.rows.now A c.requires in
    let m = held-n c.args.head c.args.rows.now c.requires in
    trimming-end _ _ A S m c.loop-left.invariant c.loop-left-test.false c.trim_followers-trimmed.ensures
