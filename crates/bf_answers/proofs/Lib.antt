mod Again
mod Ends
mod Finding
mod Found
mod ReadBack
mod Tellables
mod Texts
