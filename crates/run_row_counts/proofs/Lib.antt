-- The laws by which the functions are proved, and the theorems on the queries.
mod CountLaws
mod MoveLaws
mod QueryLaws
pub mod Theorems
mod SkipLaws
