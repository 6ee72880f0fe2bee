pub mod SameZone
mod NoZone
mod Texts
mod Spelled
