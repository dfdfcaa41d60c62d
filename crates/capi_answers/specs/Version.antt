-- The version of the calls for C and Rust: `include/sheet.h` has "65536 × MAJOR + MINOR", with the same two numbers.
use Rattle.std.specs.Prelude.{ℕ, ◌+◌, ◌*◌}

abbrev pub version_built : ℕ
version_built = 65536 * 6 + 1
