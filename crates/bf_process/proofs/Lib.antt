mod Held
mod Picked
mod Variables
