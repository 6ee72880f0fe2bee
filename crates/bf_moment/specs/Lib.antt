pub mod Calendar
pub mod Moment
pub mod Long
pub mod inner
