pub mod Sums
pub mod Keeping
pub mod Members
pub mod Shown
pub mod Turning
pub mod Closing
pub mod Opening
pub mod Starts
