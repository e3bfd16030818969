-- What the functions that work on these definitions promise, and what that is stated with.
pub mod ShapeLaws
pub mod ListedLaws
pub mod RowsOfGrid
pub mod Opening
pub mod BandSteps
