-- How readers end that are put together, and what reading an accepted source passes. Read in this order.
pub mod Ends
pub mod Traces
