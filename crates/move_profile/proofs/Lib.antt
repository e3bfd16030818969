-- The laws by which the functions are proved.
pub mod StandingLaws
pub mod FieldLaws
pub mod MoveLaws
pub mod FlagLaws
