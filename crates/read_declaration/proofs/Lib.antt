-- Laws of the fields' names and ranges.
pub mod Tests
pub mod Naming
pub mod Keeping
pub mod Writing
pub mod Grouping
pub mod Cells
