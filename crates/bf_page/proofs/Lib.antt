mod PageFacts
mod SafeFacts
mod SendingFacts
pub mod CountedFacts
