pub mod Exits
pub mod Alike
pub mod CommandFacts
pub mod CommandEnds
pub mod ClearInputs
pub mod ClearEnds
mod Recorded
mod MeantSeeds
mod ReadFiles
