-- What the functions promise, in the order of the code.
pub mod Working
pub mod Scene
