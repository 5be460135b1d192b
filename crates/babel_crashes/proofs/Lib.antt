pub mod Transports
pub mod Events
pub mod NodeTurns
pub mod IntakeEvents
pub mod Crashes
