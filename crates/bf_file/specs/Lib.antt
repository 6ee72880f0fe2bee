pub mod Failing
pub mod Pages
pub mod Replacing
