-- What ranges mean.
pub mod Ends
