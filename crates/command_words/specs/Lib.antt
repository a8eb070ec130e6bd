pub mod BadWords
pub mod Invocations
pub mod Decimal
pub mod Disks
pub mod Moment
pub mod Owners
pub mod Permissions
pub mod Verbs
