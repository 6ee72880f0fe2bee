pub mod Seen
pub mod Words
pub mod Values
pub mod Shell
pub mod Lines
pub mod inner
