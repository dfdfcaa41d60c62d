pub mod PageNine
