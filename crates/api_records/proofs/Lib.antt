-- The laws by which the functions are proved, by topic.
pub mod RowLaws
pub mod LookupLaws
