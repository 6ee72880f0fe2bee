pub mod Tables
pub mod TableIndex
