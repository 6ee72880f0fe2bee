pub mod Tries
pub mod Grades
pub mod Asked
pub mod inner
