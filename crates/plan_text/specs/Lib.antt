-- The text that sheetplan prints for the bytes of a sheet.
pub mod Text
