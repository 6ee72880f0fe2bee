pub mod Delays
pub mod Due
pub mod Lines
