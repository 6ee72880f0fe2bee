pub mod Entries
pub mod Keeping
pub mod Failing
pub mod Aligning
