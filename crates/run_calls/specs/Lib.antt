-- Runs of a source. Read in this order.
pub mod Running
pub mod Services
pub mod Calls
pub mod RangesKept
