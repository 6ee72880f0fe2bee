mod Lines
mod Failed
mod Caused
mod Telltale
