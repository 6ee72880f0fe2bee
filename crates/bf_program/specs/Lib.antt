pub mod Shown
pub mod Texts
pub mod Commands
pub mod CommandFaults
pub mod Explained
pub mod inner
