-- What an entry comes to.
mod Entries
