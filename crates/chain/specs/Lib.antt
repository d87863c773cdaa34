-- What a chain means, and what its links keep.
pub mod Links
pub mod Records
pub mod Chains
