pub mod Counted
pub mod Since
pub mod Decided
pub mod Tried
pub mod Why
pub mod inner
