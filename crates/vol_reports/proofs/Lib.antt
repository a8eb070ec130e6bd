pub mod Ranges
pub mod BlockLines
pub mod EntryLines
pub mod Climbs
pub mod NamingEntries
pub mod NameLines
pub mod PathLists
pub mod Digits
