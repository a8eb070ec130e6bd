pub mod KeptEntries
pub mod KnownEntries
pub mod KnownFindings
pub mod RightMembers
pub mod RightPaths
pub mod Unnoted
