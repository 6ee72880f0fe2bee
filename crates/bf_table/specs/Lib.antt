pub mod Tables
pub mod TableIndex
pub mod inner
