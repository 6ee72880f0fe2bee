pub mod Seeds
pub mod inner
