-- The laws by which the functions are proved, by topic.
pub mod NotingLaws
pub mod WritingLaws
pub mod ShapingLaws
