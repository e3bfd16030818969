-- What the functions promise: the public ones over a row of records, and those for programs in other languages.
pub mod Rows
pub mod Told
