pub mod Keeping
pub mod Margins
pub mod OfRuns
pub mod OneListing
pub mod Reading
