-- The laws by which the functions are proved, by topic.
mod LendLaws
pub mod OneBand
pub mod AllBands
