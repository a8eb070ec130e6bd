pub mod Components
mod ParentLaws
mod GrantedNodes
pub mod PathJoins
pub mod Searches
pub mod GoneEntries
pub mod NameKeys
pub mod NameMaps
pub mod NewEntries
pub mod NextEntries
mod OtherNames
pub mod ListedNames
pub mod PlaceTests
pub mod PutSlots
pub mod RepeatedSlots
pub mod ReadSlots
pub mod WalkLaws
