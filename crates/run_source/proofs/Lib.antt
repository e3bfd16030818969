-- The laws by which the functions are proved, by topic.
pub mod OpeningLaws
pub mod RunLaws
pub mod Theorems
