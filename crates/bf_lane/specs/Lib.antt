pub mod Relay
pub mod Lanes
pub mod Service
pub mod Open
pub mod Rounds
pub mod Closing
pub mod inner
