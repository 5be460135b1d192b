mod Gateways
mod MixedNetworks
mod HeardUpdates
mod HeardNetworks
mod MixedRuns
