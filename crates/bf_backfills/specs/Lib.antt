pub mod Commands
pub mod CommandFaults
pub mod inner
