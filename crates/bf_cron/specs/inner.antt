pub mod Cron
pub mod Minutes
