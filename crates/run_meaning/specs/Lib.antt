-- Runs of a program on a grid. Read in this order.
pub mod Reach
pub mod Admission
pub mod Report
pub mod Promises
