pub mod Ranks
pub mod Reach
pub mod Climbs
pub mod Lookups
pub mod Cycles
pub mod Order
