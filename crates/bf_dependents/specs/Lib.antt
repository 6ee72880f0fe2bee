pub mod Places
pub mod Marks
pub mod Dependents
pub mod Faults
pub mod Seeds
pub mod Listing
pub mod inner
