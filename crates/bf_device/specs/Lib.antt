pub mod Device
pub mod Memory
pub mod Output
pub mod Bytes
pub mod Input
