pub mod Failures
pub mod Causes
pub mod Tried
pub mod Told
