pub mod Instances
pub mod Told
pub mod Report
pub mod Dated
pub mod Values
pub mod LongTexts
pub mod inner
