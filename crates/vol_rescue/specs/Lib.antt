pub mod Damage
pub mod KnownOutcomes
pub mod Laws
pub mod Lines
pub mod Repaired
pub mod Notes
pub mod Paths
