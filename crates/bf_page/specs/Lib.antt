pub mod Safe
pub mod Page
pub mod inner
