pub mod Standings
pub mod Heaps
pub mod Classes
pub mod Keeping
pub mod Looks
pub mod Filling
