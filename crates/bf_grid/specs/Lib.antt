pub mod Selection
pub mod GridRows
pub mod Summary
pub mod Legend
pub mod FailedTasks
pub mod Grid
pub mod inner
