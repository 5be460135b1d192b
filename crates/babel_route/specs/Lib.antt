pub mod Rooms
pub mod Selections
pub mod Currency
pub mod Repeats
pub mod RouteLaws
pub mod PrefixWalks
pub mod SelectionChanges
