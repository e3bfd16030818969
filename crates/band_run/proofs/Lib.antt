-- The laws by which the functions are proved, by topic, and the theorem.
mod RoomLaws
mod PlanLaws
mod RefusalLaws
mod LeavingLaws
pub mod Theorems
