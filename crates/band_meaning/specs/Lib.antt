-- Bands of rows of a program. Read in this order.
pub mod Edge
pub mod Bounds
pub mod OnSizes
pub mod Plans
pub mod PlanCalls
pub mod BorderCall
