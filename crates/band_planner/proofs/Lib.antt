-- The laws by which the functions are proved, and the theorem on steps under a plan.
pub mod BorderLaws
pub mod PlanLaws
pub mod OpeningLaws
pub mod PlanningLaws
pub mod BorderCallLaws
pub mod Theorems
