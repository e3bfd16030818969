-- The laws by which the functions are proved, by topic.
pub mod AssignmentLaws
pub mod PendingLaws
pub mod StatementLaws
pub mod CellLaws
