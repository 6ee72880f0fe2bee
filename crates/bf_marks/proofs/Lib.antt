pub mod OrderFacts
pub mod LabelFacts
mod BehindFacts
mod OnceFacts
mod AllFacts
