-- Marks of the open cells, from the cells that changed. A reader has to believe Opened. Noting is what the loops do.
pub mod Promises
