mod Placing
mod Collecting
mod Skipping
mod Margins
mod Settling
mod Pairing
pub mod OneListing
mod Places
mod Meeting
mod OneAnswer
pub mod Ending
pub mod OfRuns
