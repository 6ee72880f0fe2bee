pub mod Graphs
pub mod Ranges
pub mod Lists
pub mod Clocks
pub mod Tables
pub mod Wanting
pub mod inner
