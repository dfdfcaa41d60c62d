-- The examples, by computation.
use mathlib.Core.Path.{◌≡◌, refl}
use Rattle.bounded.specs.Bool.{and, or, not, if}
use Rattle.format.specs.Layout.{count_test, size_test, constraints_test, out_of_range, pair_test, row_test, longest, version1, version2, version3, layouts, layout_among}
use Rattle.format.specs.Parse.{bind, number_at, judged, field, many, fields, pair_of, size_of, parse_table, parse_tables, ended, parse_body}
use Rattle.format.specs.Parse.{wrong_under, parse_in, parse_under, parse}
use Rattle.format.specs.WellFormed.{All, none, more}
use Rattle.format.specs.Examples.{Example, two, examples}

pub examples-parsed : All (λ (e : Example). parse e.bytes ≡ e.answer) examples
unfolding examples two and or not if count_test size_test constraints_test out_of_range pair_test row_test longest version1 version2 version3 layouts layout_among bind number_at judged field many fields pair_of size_of parse_table parse_tables ended parse_body wrong_under parse_in parse_under parse
examples-parsed =
    more refl (more refl (more refl (more refl (more refl (more refl (more refl (more refl (more refl
    (more refl (more refl (more refl (more refl (more refl (more refl none))))))))))))))
