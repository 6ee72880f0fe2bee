pub mod Results
pub mod Faults
pub mod ListedIntervals
