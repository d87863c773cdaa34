-- What a store means.
pub mod Stored
pub mod Tables
