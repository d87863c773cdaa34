-- What verdicts mean.
pub mod Algebra
pub mod Least
pub mod Linear
pub mod YesNo
pub mod Margins
pub mod Spans
pub mod Text
