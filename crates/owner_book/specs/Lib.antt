pub mod AdapterMoves
pub mod Admitting
pub mod Bindings
pub mod Standings
pub mod Starting
pub mod StoppedContexts
pub mod Stopping
pub mod Tailing
