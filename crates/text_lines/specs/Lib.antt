-- The lines of options and refusals in the text that sheetcut prints.
pub mod Text
