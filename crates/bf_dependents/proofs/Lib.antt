pub mod Least
pub mod SeedFaults
pub mod RightMarks
pub mod Lookups
pub mod Neighbours
pub mod Listed
