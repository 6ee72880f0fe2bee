pub mod Agendas
pub mod Cursors
pub mod Stirring
pub mod Dues
