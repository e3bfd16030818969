-- What evaluating one cell gives. Read in this order.
pub mod Operators
pub mod Evaluation
pub mod Written
pub mod Places
-- The relative indices, as they stand in the word table.
pub mod Links
-- What it is for a program to stand in the word table, and what its leaf table is.
pub mod Promises
