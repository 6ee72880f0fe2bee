pub mod Days
pub mod Listing
pub mod inner
