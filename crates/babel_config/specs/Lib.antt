pub mod Keys
pub mod Scalars
pub mod Configs
pub mod Events
pub mod Heard
pub mod ScenarioEvents
pub mod Scenarios
pub mod Files
