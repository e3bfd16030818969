-- What the functions promise, in the order of the code.
pub mod Blockwise
pub mod Stepwise
pub mod Countwise
pub mod OneStep
