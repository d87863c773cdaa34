-- What measures are.
pub mod Measures
pub mod Routes
