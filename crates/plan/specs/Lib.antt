-- What plans are, and what a draft refuses.
pub mod Rows
pub mod Plans
pub mod Drafts
