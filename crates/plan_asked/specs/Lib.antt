-- What the arguments of sheetplan ask for.
pub mod Asked
