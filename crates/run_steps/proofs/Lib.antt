-- The laws by which the functions are proved, by topic.
pub mod BlockLaws
pub mod StepwiseLaws
pub mod CountLaws
