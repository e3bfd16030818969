-- The laws by which the functions are proved, by topic.
pub mod Results
pub mod RequestLaws
pub mod EntryLaws
pub mod AdmissionLaws
