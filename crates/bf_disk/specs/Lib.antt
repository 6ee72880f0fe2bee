pub mod Files
pub mod Source
pub mod Stored
pub mod Disks
pub mod Journals
pub mod inner
