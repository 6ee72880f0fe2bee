pub mod Locality
pub mod Reached
pub mod Early
pub mod AgendaFacts
pub mod Newly
pub mod Adding
pub mod Keeping
pub mod Settling
