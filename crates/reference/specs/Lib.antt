pub mod Agendas
pub mod Queues
pub mod Clocks
pub mod Memos
pub mod Standing
pub mod Taking
pub mod Verdicts
pub mod Views
