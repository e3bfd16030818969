-- Theorems about the definitions.
pub mod EdgeTheorems
pub mod PlanTheorems
mod PlanCases
