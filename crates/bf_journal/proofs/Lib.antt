pub mod Going
mod Cutting
mod Finding
mod Pieces
mod Telling
mod Reading
mod Optionals
mod Starting
mod Lasting
mod Passing
mod Heading
mod Wholes
pub mod Naming
pub mod Crashes
pub mod Left
mod Leaving
pub mod Answering
pub mod Sharing
