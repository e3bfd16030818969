-- The laws by which the functions are proved, by topic.
pub mod CountingLaws
pub mod ElementLaws
pub mod WalkLaws
