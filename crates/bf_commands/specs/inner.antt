pub mod Reported
pub mod OverTable
pub mod Programs
pub mod Cleared
pub mod Journaled
pub mod Restarting
