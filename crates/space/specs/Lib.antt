-- What reach means at one step, and how it is found by levels of distance.
pub mod Along
pub mod Levels
pub mod Reach
