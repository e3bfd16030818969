-- Timed value lists. Read in this order.
pub mod Text
pub mod Lines
pub mod ListChecking
pub mod Setting
pub mod Writing
pub mod Promises
