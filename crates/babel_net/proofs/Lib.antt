pub mod SeenWorlds
mod FewPrefixes
pub mod Running
pub mod HappeningEvents
pub mod KeptNetworks
pub mod FirstNetworks
mod SentOctetsLaws
mod Recorded
pub mod Chains
pub mod KeptOwners
pub mod NextHops
pub mod MakingFaults
mod CallFaults
