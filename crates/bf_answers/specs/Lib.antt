pub mod Answers
pub mod TableText
pub mod Over
pub mod inner
