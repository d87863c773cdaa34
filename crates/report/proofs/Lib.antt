-- How a sheet's text grows as it is written.
mod Written
