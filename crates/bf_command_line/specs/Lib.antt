pub mod Asked
pub mod Naming
pub mod Wrongs
