-- Pipes that join places.
pub mod Joining
