-- What the order of a kind has, whatever the kind.
pub mod Order
