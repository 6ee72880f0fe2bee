pub mod Output
pub mod Environment
pub mod Commands
