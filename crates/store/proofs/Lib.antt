-- What entries come to, for every store and for the table.
pub mod Entering
pub mod Tables
