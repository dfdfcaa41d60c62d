-- Worked sheets of the paired profile and others, by computation: the places that number 31 names, and a sheet that is cut off.
use mathlib.Core.List.{List, [], ◌∷◌}
use mathlib.Core.Path.{◌≡◌, refl}
use Prim.Native.Nat.{ℕ}
use Rattle.bounded.specs.Bool.{and, or, not, bit, if}
use Rattle.bounded.specs.Fold.{every, sum, count}
use Rattle.words.specs.Word.{has}
use Rattle.cause.specs.declared.Cause.{Cause}
use Rattle.cause.specs.declared.Cause.TheVariants.{Extent}
use Rattle.format.specs.Layout.{count_test, size_test, constraints_test, out_of_range, pair_test, row_test, longest, version1, version2, version3, layouts, layout_among, layout_of}
use Rattle.format.specs.Parse.{bad, bind, number_at, judged, field, many, fields, pair_of, size_of, parse_table, parse_tables, ended, parse_body}
use Rattle.format.specs.Parse.{wrong_under, parse_in, parse_under, parse}
use Rattle.format.specs.WellFormed.{All, none, more}
use Rattle.format.specs.Builds.{width_in, byte, options, option_size, tables, first_table, row_width, big_endian, table_row, next_table}
use Rattle.format.specs.Profile.{rows_paired, table_paired, unpaired_among, unpaired_place, then_paired, parse_paired}

-- Bytes, and the place that is named, or 0.
pub record Kit : Type 0 where
  pub bytes : List ℕ
  pub place : ℕ

unfoldable pub kits : List Kit
kits =
    -- A: the pair 2, 3
    record { bytes = 1 ∷ 0 ∷ 19 ∷ 3 ∷ 2 ∷ 3 ∷ 2 ∷ 2 ∷ 1 ∷ 2 ∷ 0 ∷ 1 ∷ 0 ∷ 4 ∷ 2 ∷ 3 ∷ 0 ∷ 2 ∷ 0 ∷ 1 ∷ 0 ∷ 1 ∷ []; place = 14 }
    -- B: the pair 1, 2
    ∷ record { bytes = 1 ∷ 0 ∷ 19 ∷ 3 ∷ 2 ∷ 3 ∷ 2 ∷ 2 ∷ 1 ∷ 2 ∷ 0 ∷ 1 ∷ 0 ∷ 6 ∷ 2 ∷ 3 ∷ 0 ∷ 1 ∷ 0 ∷ 2 ∷ 0 ∷ 2 ∷ []; place = 8 }
    -- G and L
    ∷ record { bytes = 1 ∷ 0 ∷ 10 ∷ 2 ∷ 2 ∷ 2 ∷ 1 ∷ 1 ∷ 2 ∷ 0 ∷ 3 ∷ 0 ∷ 3 ∷ []; place = 7 }
    ∷ record { bytes = 1 ∷ 0 ∷ 10 ∷ 2 ∷ 2 ∷ 2 ∷ 1 ∷ 1 ∷ 2 ∷ 0 ∷ 1 ∷ 0 ∷ 1 ∷ []; place = 7 }
    -- J: an empty row is functional, and so is its empty column
    ∷ record { bytes = 1 ∷ 0 ∷ 10 ∷ 2 ∷ 2 ∷ 1 ∷ 1 ∷ 1 ∷ 2 ∷ 0 ∷ 1 ∷ 0 ∷ 0 ∷ []; place = 0 }
    -- J in version 2, rows of four bytes, and G in version 2 after a pair of the profile
    ∷ record { bytes = 2 ∷ 0 ∷ 14 ∷ 2 ∷ 2 ∷ 1 ∷ 1 ∷ 1 ∷ 2 ∷ 0 ∷ 0 ∷ 0 ∷ 1 ∷ 0 ∷ 0 ∷ 0 ∷ 0 ∷ []; place = 0 }
    ∷ record { bytes = 2 ∷ 0 ∷ 21 ∷ 3 ∷ 1 ∷ 2 ∷ 2 ∷ 2 ∷ 1 ∷ 2 ∷ 0 ∷ 0 ∷ 0 ∷ 1 ∷ 2 ∷ 3 ∷ 0 ∷ 0 ∷ 0 ∷ 3 ∷ 0 ∷ 0 ∷ 0 ∷ 3 ∷ []; place = 14 }
    -- H and I: no table
    ∷ record { bytes = 1 ∷ 0 ∷ 4 ∷ 2 ∷ 2 ∷ 2 ∷ 0 ∷ []; place = 0 }
    ∷ []

pub kits-placed : All (λ (k : Kit). unpaired_place k.bytes ≡ k.place) kits
unfolding kits and or not bit if every sum count has version1 version2 version3 layouts layout_among layout_of width_in byte options option_size tables first_table row_width big_endian table_row next_table rows_paired table_paired unpaired_among unpaired_place
kits-placed = more refl (more refl (more refl (more refl (more refl (more refl (more refl (more refl none)))))))

-- "after all other tests of reading": L with a byte more is refused with 6 at 13.
pub extent-first : (c : Cause) → parse_paired c (1 ∷ 0 ∷ 11 ∷ 2 ∷ 2 ∷ 2 ∷ 1 ∷ 1 ∷ 2 ∷ 0 ∷ 1 ∷ 0 ∷ 1 ∷ 0 ∷ []) ≡ bad Extent 13
unfolding and or not if count_test size_test constraints_test out_of_range pair_test row_test longest version1 version2 version3 layouts layout_among bind number_at judged field many fields pair_of size_of parse_table parse_tables ended parse_body wrong_under parse_in parse_under parse then_paired parse_paired
extent-first c = refl
