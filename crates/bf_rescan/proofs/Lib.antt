pub mod Firsts
pub mod Present
pub mod Bests
pub mod Soonest
