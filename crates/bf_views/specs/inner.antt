pub mod Refused
pub mod Clocks
pub mod Planned
pub mod Times
pub mod ExplainFaults
pub mod ReadFor
