-- That a source is accepted exactly if its reply is 0, and where a refusal stands. Read in this order.
pub mod Numbers
pub mod Stops
pub mod Steps
pub mod Readers
pub mod Replies
