pub mod Onward
pub mod Walks
pub mod inner
