pub mod MixedNetworks
pub mod Updates
pub mod Mixed
pub mod MixedRuns
