pub mod Output
pub mod Clocks
pub mod Environment
pub mod Words
pub mod inner
