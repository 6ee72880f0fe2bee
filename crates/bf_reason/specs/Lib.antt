pub mod Reasons
pub mod Settled
pub mod Causes
pub mod Letters
pub mod Runs
pub mod inner
