-- What a source means, or the reply that refuses it. Read in this order.
pub mod Ranking
pub mod Reader
pub mod Constants
pub mod Expressions
pub mod Statements
pub mod Source
pub mod Checking
pub mod Decimal
pub mod Answer
pub mod Promises
