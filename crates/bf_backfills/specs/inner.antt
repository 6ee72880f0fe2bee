pub mod Named
pub mod CommandFaults
pub mod Files
pub mod Journals
pub mod Telling
