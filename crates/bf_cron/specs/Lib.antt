pub mod Cron
pub mod BadField
pub mod Grammar
pub mod Minutes
pub mod LeapYears
pub mod inner
