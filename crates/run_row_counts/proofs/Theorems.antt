-- Theorems about the definitions.
pub mod RowTheorems
mod RowCases
