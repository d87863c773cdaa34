-- What a survey holds, and what it refuses.
pub mod Surveys
