-- Judging a step of two variables: each test that comes first decides its number.
use mathlib.Core.Bool.{Bool, true, false}
use mathlib.Core.Path.{◌≡◌, ◌∙◌}
use Rattle.bounded.specs.Bool.{or, not}
use Rattle.bounded.proofs.Bool.{or_l, or_r, or-false-i, not-i, not-false-i, if-true, if-false}
use Rattle.step_judge.specs.Judging.{pair_number}

pub leader_led : {leads : Bool} (follows stated single : Bool) → leads ≡ false → pair_number leads follows stated single ≡ 11
unfolding pair_number
leader_led follows stated single t = if-true _ _ _ (or_l _ _ (not-i _ t))

pub follower-led : (leads : Bool) {follows : Bool} (stated single : Bool) → follows ≡ false → pair_number leads follows stated single ≡ 11
unfolding pair_number
follower-led leads stated single t = if-true _ _ _ (or_r _ _ (not-i _ t))

module _ {leads follows : Bool} (i_free : leads ≡ true) (j_free : follows ≡ true) where
  both-free : or (not leads) (not follows) ≡ false
  both-free = or-false-i _ _ (not-false-i _ i_free) (not-false-i _ j_free)

  pub not-stated : {stated : Bool} (single : Bool) → stated ≡ false → pair_number leads follows stated single ≡ 12
  unfolding pair_number
  not-stated single t = if-false _ _ _ both-free ∙ if-true _ _ _ (not-i _ t)

  pub not-functional : {stated single : Bool} → stated ≡ true → single ≡ false → pair_number leads follows stated single ≡ 13
  unfolding pair_number
  not-functional s t = if-false _ _ _ both-free ∙ if-false _ _ _ (not-false-i _ s) ∙ if-true _ _ _ (not-i _ t)

  pub step_legal : {stated single : Bool} → stated ≡ true → single ≡ true → pair_number leads follows stated single ≡ 0
  unfolding pair_number
  step_legal s t = if-false _ _ _ both-free ∙ if-false _ _ _ (not-false-i _ s) ∙ if-false _ _ _ (not-false-i _ t)
