pub mod Ranges
pub mod Refusal
pub mod Status
