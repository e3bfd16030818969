-- What the functions promise, in the order of the code.
pub mod Borders
pub mod Plans
pub mod Opening
pub mod Planning
pub mod BorderCall
