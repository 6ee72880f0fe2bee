pub mod Inputs
pub mod Moments
pub mod Overwriting
pub mod inner
