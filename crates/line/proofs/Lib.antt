-- Lemmas that the proofs of this crate share.
pub mod Cuts
pub mod Values
