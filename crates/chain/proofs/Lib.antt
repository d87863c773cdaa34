-- What a chain's records tell and keep, and what entries come to.
pub mod Widest
pub mod Telling
pub mod Linking
pub mod Keeping
pub mod Steps
