-- The laws by which the functions are proved, and the theorem that what is written reads back.
pub mod PrintingLaws
pub mod LineLaws
pub mod AdmittingLaws
pub mod SourceLaws
pub mod WritingLaws
pub mod Theorems
