-- The name list as a row of records.
pub mod Rows
