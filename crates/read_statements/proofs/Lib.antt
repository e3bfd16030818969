-- What the proofs of several functions use: laws of single steps, of turns that the place behind them tells, of lists of statements and of loops.
pub mod Single
pub mod Turned
pub mod Lists
pub mod Loops
