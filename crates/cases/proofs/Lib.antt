-- Why the cases hold.
mod LongWay
mod Reckoned
