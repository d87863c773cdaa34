-- What a row that is taken keeps true of the table of rows.
mod Written
