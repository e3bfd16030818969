-- The laws by which the functions are proved, by topic.

pub mod LoopLaws
pub mod ElementLaws
pub mod ChoiceLaws
pub mod VectorLaws
pub mod ListLaws
