pub mod Grammar
pub mod inner
