-- What the survey says of some sheets, by computation.
use mathlib.Core.Bool.{true}
use mathlib.Core.Path.{◌≡◌, refl}
use Rattle.bounded.specs.Bool.{and, or, implies, not, bit, if}
use Rattle.bounded.specs.Fold.{every, some, sum, product, count, first}
use Rattle.words.specs.Word.{has, word}
use Rattle.network.specs.Network.{free, partner, functional}
use Rattle.network.specs.Step.{outside, refusal, legal, trimmed, third, joined as joins, composed, eliminate, relisted, followers_trimmed, followed}
use Rattle.network.specs.Reduction.{free_count, leading, reducible, next_leader, lowest_follower, next_follower, advance, one_more, run_within, reduce_within, reduce}
use Rattle.network.specs.Completion.{lowest}
use Rattle.network.specs.Sheet.{is_for, tabled, row_for, network_of}
use Rattle.network.specs.Survey.{tied, tied_values, tied_product, single, settled_domain, settled, nothing, joined, taken, narrowed_by, tallied, besides, free_used, any_used, all_count, spread, surveyed}
use Rattle.network.specs.SurveySheets.{tally_says, survey_says, different, sheet_g, sheet_h, reduced_a, all_differ, nobody_fits, surveyed_sheets}

pub surveyed-sheets : surveyed_sheets ≡ true
unfolding and or implies not bit if every some sum product count first has word free partner functional outside refusal legal trimmed third joins composed eliminate relisted followers_trimmed followed free_count leading reducible next_leader lowest_follower next_follower advance one_more run_within reduce_within reduce lowest is_for tabled row_for network_of tied tied_values tied_product single settled_domain settled nothing joined taken narrowed_by tallied besides free_used any_used all_count spread surveyed tally_says survey_says different sheet_g sheet_h reduced_a all_differ nobody_fits surveyed_sheets
surveyed-sheets = refl
