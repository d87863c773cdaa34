-- What is printed of refusals and sheets.
pub mod Texts
pub mod Printouts
