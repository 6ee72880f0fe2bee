pub mod Events
pub mod Words
pub mod Checks
pub mod Tries
pub mod Driven
