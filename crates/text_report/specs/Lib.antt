-- The text that sheetcut prints.
pub mod Text
pub mod Printed
