pub mod Driving
pub mod Ticks
