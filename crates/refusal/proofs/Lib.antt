-- What follows where no check refuses.
pub mod Passing
