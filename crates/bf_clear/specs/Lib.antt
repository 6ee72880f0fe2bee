pub mod Entries
pub mod Keeping
pub mod Failing
pub mod Matching
pub mod Aligning
pub mod inner
