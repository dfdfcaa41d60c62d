-- The loop's invariant: the whole is the steps taken and the rounds of the present head and rows. Each round but the last takes a free variable.
use mathlib.Core.Path.{◌≡◌}
use native.Mathlib.Omega.{arith}
use borrow.Author.Rules.{rules}
use Rattle.network.specs.Reduction.{free_count}
use Rattle.head.specs.Held.{held}
use Rattle.head.proofs.Held.{shape}
use Rattle.step_alternate.proofs.Alternating.{Alternating, alternating-none, round-sound, round-none, round-steps, round-last, round-less, round-more}
use Rattle.step_alternate.proofs.alternate_sound.Statement.{statement}
use Rattle.step_alternate.proofs.alternate_sound.Tie as tie

abbrev invariant-loop : tie.invariant-loop-steps
invariant-loop rows₀ cut₀ steps₀ rows cut steps = Alternating cut₀ rows₀ cut rows steps

abbrev decreases-loop : tie.decreases-loop-steps
decreases-loop rows₀ cut₀ steps₀ rows cut steps = free_count (held cut rows)

loop-holds : tie.Need-loop-steps-init invariant-loop decreases-loop
loop-holds c = alternating-none _ _ (search shape) c.requires.0 c.requires.1

trim-live-requires : tie.Need-trim_live-trimmed-requires invariant-loop decreases-loop
trim-live-requires c κs = c.loop-steps.invariant.still_sound

reduce-sound-requires : tie.Need-reduce_sound-round-requires invariant-loop decreases-loop
reduce-sound-requires c κs =
    let t = c in
    let A = t.loop-steps.invariant in
    let R = A.still_rows in
    let s = round-sound A t.trim_live-trimmed.ensures in
    search rules

add-steps : tie.Need-overflow_add-steps invariant-loop decreases-loop
add-steps c =
    let d = c in
    let t = d in
    omega (arith, round-steps t.loop-steps.invariant t.trim_live-trimmed.ensures d.reduce_sound-round.ensures)

loop-less : tie.Need-loop-steps-smaller invariant-loop decreases-loop
loop-less c =
    let took : c.reduce_sound-round.result.steps ≡ 0 → ⊥ = omega arith in
    round-less c.loop-steps.invariant c.trim_live-trimmed.ensures c.reduce_sound-round.ensures took

loop-again : tie.Need-loop-steps-preserved invariant-loop decreases-loop
loop-again c =
    let took : c.reduce_sound-round.result.steps ≡ 0 → ⊥ = omega arith in
    round-more c.loop-steps.invariant c.trim_live-trimmed.ensures c.reduce_sound-round.ensures took

pub alternate_sound_spec : {M : Type 1} → statement M
alternate_sound_spec =
    tie.close
    (tie.spec invariant-loop decreases-loop loop-holds trim-live-requires
    (λ c κs. search rules)
    (λ c.
    let some : c.loop-steps.steps ≡ 0 → ⊥ = omega arith in
    round-none c.loop-steps.invariant c.trim_live-trimmed.ensures (search rules) some)
    reduce-sound-requires
    (λ c.
    let none : c.reduce_sound-round.result.steps ≡ 0 = omega arith in
    round-last c.loop-steps.invariant c.trim_live-trimmed.ensures c.reduce_sound-round.ensures none)
    add-steps loop-less loop-again)
