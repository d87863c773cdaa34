-- Cases of the meanings that readers ask about.
pub mod Cases
