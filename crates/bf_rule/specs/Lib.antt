pub mod Verdicts
pub mod Branches
pub mod Names
pub mod inner
