-- The laws by which the functions are proved, by topic.

pub mod NotingLaws
pub mod BoxLaws
pub mod MarkLaws
pub mod PlaceLaws
pub mod OpenLaws
pub mod WayLaws
