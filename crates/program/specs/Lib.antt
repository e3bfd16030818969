-- What a source means, the word table that holds it, and what reading a token off it promises. Read in this order.
pub mod Reason
pub mod Refusal
pub mod Syntax
pub mod Table
pub mod Promises
