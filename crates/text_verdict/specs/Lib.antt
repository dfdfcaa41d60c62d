-- The lines of a verdict in the text that sheetcut prints.
pub mod Text
