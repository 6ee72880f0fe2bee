pub mod Numbers
pub mod Lists
pub mod Values
pub mod Moments
