-- The value of a follower at a value of its leader: what the completer writes, without a buffer. Options count from 1.
use Rattle.std.specs.Prelude.{false, List, ◌≡◌, ℕ, suc, pred, ◌<◌, eqb, get_or}
use Rattle.bounded.specs.Bool.{not, if}
use Rattle.network.specs.Network.{free}
use Rattle.network.specs.Step.{outside}
use Rattle.network.specs.Completion.{follow}
use Rattle.answers.specs.Answers.{ValueTold}
use Rattle.state.specs.declared.state.State.{State}
use Rattle.state.specs.View.{Shaped, view, sound_state}
use Rattle.state.specs.Solutions.{complete_number, completed_buffer}

-- 9 "state not sound", then 10 "option number 0 or above n", then 11 where the option follows nobody, then 15 for a value that is not in its leader's list.
unfoldable pub follower_number : State → (option value : ℕ) → ℕ
follower_number s option value =
    if (not (sound_state s)) 9
    (if (outside (view s) option) 10
    (if (free (view s) (pred option)) 11
    (if (not ((view s).domain (pred ((view s).leader (pred option))) value)) 15 0)))

-- The partner of that value; 0 beside a refusal.
unfoldable pub follower_value : State → (option value : ℕ) → ValueTold
follower_value s option value =
    record {
      number = follower_number s option value;
      value = if (eqb (follower_number s option value) 0) (follow (view s) (pred option) value) 0;
    }

-- "The completer reads the bytes of live options and writes those of followers": of every buffer that it completes, the value that it writes for the
-- variable i, counted from 0, is this one at the byte of i's leader.
unfoldable pub AsCompleted : Type 0
AsCompleted =
    (s : State) → Shaped s → (b : List ℕ) → complete_number s b ≡ 0 → (i : ℕ) → i < s.n → free (view s) i ≡ false
    → follower_value s (suc i) (get_or b (pred ((view s).leader i)) 0) ≡ record { number = 0; value = get_or (completed_buffer s b) i 0 }
