mod CalendarFacts
mod MomentFacts
mod Spelling
mod ClockFacts
mod LongFacts
mod LongForm
pub mod OneText
