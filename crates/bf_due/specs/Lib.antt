pub mod Steps
pub mod Agendas
pub mod Cursors
pub mod Dues
pub mod inner
