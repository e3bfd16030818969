-- The laws by which the functions are proved, by topic, and the theorems.
mod AskingLaws
mod CallLaws
pub mod Theorems
