pub mod Accounts
pub mod Faults
pub mod Shown
pub mod Turns
pub mod inner
