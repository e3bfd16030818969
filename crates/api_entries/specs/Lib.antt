-- Numbers told in a slice that is lent.
pub mod Over
