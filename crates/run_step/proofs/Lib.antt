-- The laws by which the functions are proved, by topic.
pub mod TurnLaws
pub mod FillLaws
pub mod StepLaws
pub mod RowLaws
