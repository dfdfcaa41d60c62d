-- The twelve sheets A to L give what documents 01 and 02 say: one claim over the rows of its table, by computation.
use mathlib.Core.Bool.{true}
use mathlib.Core.Path.{◌≡◌, refl}
use Rattle.bounded.specs.Bool.{and, or, implies, not, bit, if}
use Rattle.bounded.specs.Fold.{every, some, sum, count, first}
use Rattle.words.specs.Word.{has, word}
use Rattle.network.specs.Network.{free, partner, functional}
use Rattle.network.specs.Step.{outside, refusal, legal, trimmed, third, joined, composed, eliminate, relisted, followers_trimmed, followed}
use Rattle.network.specs.Reduction.{free_count, leading, reducible, next_leader, lowest_follower, next_follower, advance, one_more, run_within, reduce_within, reduce}
use Rattle.network.specs.Completion.{follow, completed, lowest, exhausted, decided, verdict, lowest_solution, shown}
use Rattle.network.specs.Sheet.{is_for, tabled, row_for, network_of}
use Rattle.network.specs.Sheets.{plays, play_all, same_verdict, answers, reduced_as, holds, hold_all, twelve}

pub twelve-sheets : hold_all twelve ≡ true
unfolding and or implies not bit if every some sum count first has word free partner functional outside refusal legal trimmed third joined composed eliminate relisted followers_trimmed followed free_count leading reducible next_leader lowest_follower next_follower advance one_more run_within reduce_within reduce follow completed lowest exhausted decided verdict lowest_solution shown is_for tabled row_for network_of plays play_all same_verdict answers reduced_as holds hold_all twelve
twelve-sheets = refl
