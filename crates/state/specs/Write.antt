-- Writing: "the writer tests 9, 18, 17", and document 02: "The writer is told the version", and refuses with 24 "after 18 and before 17" and
-- with 26 "after 24 and before 17".
use Rattle.std.specs.Prelude.{List, ◌++◌, ℕ, ltb, length, drop}
use Rattle.bounded.specs.Bool.{not, if}
use Rattle.network.specs.Sheet.{sheet_of, fresh}
use Rattle.format.specs.Layout.{layout_of}
use Rattle.format.specs.Print.{print_in}
use Rattle.format.specs.Writable.{fits_version, rows_pass}
use Rattle.state.specs.declared.state.State.{State}
use Rattle.state.specs.View.{view, sound_state}
use Rattle.answers.specs.Answers.{WriteTold}

-- The sheet of a state in a version; no bytes in an unknown one.
unfoldable pub sheet_bytes : ℕ → State → List ℕ
sheet_bytes version s = print_in (layout_of version) (sheet_of (view s))

-- The number that refuses, for a buffer of so many bytes, or 0. The version is any number.
unfoldable pub write_refusal : ℕ → State → ℕ → ℕ
write_refusal version s space =
    if (not (sound_state s)) 9
    (if (not (fresh (view s))) 18
    (if (not (fits_version (layout_of version) (view s))) 24
    (if (not (rows_pass (layout_of version) (view s))) 26
    (if (ltb space (length (sheet_bytes version s))) 17
    0))))

-- What is answered, and the buffer at exit: "The writer returns the sheet's length and leaves bytes past its end untouched";
-- a refusal leaves the buffer as it was.
pub record Wrote : Type 0 where
  pub answer : WriteTold
  pub buffer : List ℕ

unfoldable pub write_as : ℕ → List ℕ → List ℕ → Wrote
write_as refusal bytes buffer =
    if (ltb 0 refusal)
    (record { answer = record { number = refusal; length = 0 }; buffer = buffer })
    (record { answer = record { number = 0; length = length bytes }; buffer = bytes ++ drop (length bytes) buffer })

unfoldable pub write_sheet : ℕ → State → List ℕ → Wrote
write_sheet version s buffer = write_as (write_refusal version s (length buffer)) (sheet_bytes version s) buffer
