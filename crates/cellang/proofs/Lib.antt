-- The laws by which the functions are proved, by topic.
pub mod StoreLaws
pub mod Telling
