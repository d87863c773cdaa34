-- Why the levels give the least verdict over all routes.
pub mod Made
pub mod Cuts
mod Begun
mod Rooms
mod Fronts
mod Climbs
pub mod Reaches
