-- The trimmed sheets give what is said of them, by computation.
use mathlib.Core.Bool.{true}
use mathlib.Core.Path.{◌≡◌, refl}
use Rattle.bounded.specs.Bool.{and, or, implies, not, bit, if}
use Rattle.bounded.specs.Fold.{every, some, sum, count, first}
use Rattle.words.specs.Word.{has, word}
use Rattle.network.specs.Network.{free, partner, functional}
use Rattle.network.specs.Step.{outside, refusal, legal, trimmed, third, joined, composed, eliminate, relisted, followers_trimmed, followed}
use Rattle.network.specs.Reduction.{free_count, leading, reducible, next_leader, lowest_follower, next_follower, advance, one_more, run_within, reduce_within, reduce}
use Rattle.network.specs.Trimming.{supported, consistent, pass, passes_within, value_count, largest, live_trimmed, more_steps, alternate_within, alternate}
use Rattle.network.specs.Completion.{follow, completed, lowest, exhausted, decided, verdict, lowest_solution, shown}
use Rattle.network.specs.Sheet.{is_for, tabled, row_for, network_of}
use Rattle.network.specs.Sheets.{same_verdict}
use Rattle.network.specs.Lists.{narrowed}
use Rattle.network.specs.Substitution.{is_pair}
use Rattle.network.specs.Added.{traced, partner_in, table_allows, rows_fit, add_refusal, cut_pair, constrained, allows_partners, added}
use Rattle.network.specs.Calls.{refuses, made, answer, after}
use Rattle.network.specs.TrimmedSheets.{leaves, leave_all, follower_lists, live_lists}

pub follower-lists : leave_all follower_lists ≡ true
unfolding and or implies not bit if every some sum count first has word free partner functional outside refusal legal trimmed third joined composed eliminate relisted followers_trimmed followed free_count leading reducible next_leader lowest_follower next_follower advance one_more run_within reduce_within reduce follow completed lowest exhausted decided verdict lowest_solution shown is_for tabled row_for network_of same_verdict narrowed is_pair traced partner_in table_allows rows_fit add_refusal cut_pair constrained allows_partners added refuses made answer after leaves leave_all follower_lists
follower-lists = refl

pub live-lists : leave_all live_lists ≡ true
unfolding and or implies not bit if every some sum count first has word free partner functional outside refusal legal trimmed third joined composed eliminate relisted followers_trimmed followed free_count leading reducible next_leader lowest_follower next_follower advance one_more run_within reduce_within reduce supported consistent pass passes_within value_count largest live_trimmed more_steps alternate_within alternate follow completed lowest exhausted decided verdict lowest_solution shown is_for tabled row_for network_of same_verdict refuses made answer after leaves leave_all live_lists
live-lists = refl
