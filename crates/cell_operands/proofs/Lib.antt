-- The laws by which the functions are proved, by topic.
pub mod TableLaws
pub mod DecodingLaws
pub mod OperatorLaws
pub mod NeighbourLaws
pub mod PrimaryLaws
pub mod LeafLaws
pub mod NotedLaws
