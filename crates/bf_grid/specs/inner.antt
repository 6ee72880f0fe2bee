pub mod FoundTasks
pub mod GridTables
