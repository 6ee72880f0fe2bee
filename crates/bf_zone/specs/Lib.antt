pub mod Offsets
pub mod Zones
