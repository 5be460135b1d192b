pub mod RouteKeys
pub mod Routes
pub mod Choices
pub mod Origins
pub mod PrefixBounds
