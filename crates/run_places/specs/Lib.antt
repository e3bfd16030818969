-- The places that relative indices can take. Vectors says what is made of one relative index, Widening what is made of a reach by it.
pub mod Promises
