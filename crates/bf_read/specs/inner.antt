pub mod Drafts
pub mod Fields
