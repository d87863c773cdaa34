-- What a job prints.
pub mod Jobs
pub mod Reading
pub mod Way
