-- What every verdict on a sheet means, when a sheet is refused, and what a board then holds.
pub mod Meaning
pub mod Verdicts
pub mod Boards
pub mod Cases
pub mod AtStep
