pub mod Json
pub mod Names
