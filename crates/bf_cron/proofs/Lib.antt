mod Words
pub mod Items
pub mod Rules
mod Decimals
mod Forms
mod Written
mod Parts
mod Schedules
pub mod Dates
pub mod LeapYears
