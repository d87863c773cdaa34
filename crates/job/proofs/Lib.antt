-- What the turns of a job come to.
mod Lines
