-- Theorems, and worked examples.
pub mod RunningLaws
pub mod AcceptedSources
pub mod GridInRanges
pub mod Cases
pub mod Examples
