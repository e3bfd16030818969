-- A full run under a plan. Read in this order.
pub mod BandedRun
pub mod Promises
