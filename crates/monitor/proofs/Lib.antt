-- The one sheet, and how a board is filled.
mod Windows
mod Columns
pub mod OneSheet
pub mod Positions
pub mod Filling
