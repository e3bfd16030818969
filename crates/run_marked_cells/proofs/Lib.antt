-- The laws by which the functions are proved, by topic.
mod ClearLaws
pub mod RoomLaws
pub mod ScanLaws
mod PointLaws
pub mod PartLaws
mod ExchangeLaws
