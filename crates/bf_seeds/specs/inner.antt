pub mod Seeds
pub mod Words
