pub mod Settled
pub mod Causes
