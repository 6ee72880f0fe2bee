pub mod Ends
pub mod FiledReports
mod OwnPages
mod Printing
pub mod Unasked
