-- The tokens of a source. Read in this order.
pub mod Bytes
pub mod Kind
pub mod Lexeme
pub mod Scanning
pub mod Promises
