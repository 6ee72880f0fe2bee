pub mod Nearest
pub mod Findings
