-- What refusals are, and how a list of checks gives the first that fits.
pub mod Numbers
pub mod Checks
