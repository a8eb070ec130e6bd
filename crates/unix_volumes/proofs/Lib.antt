pub use Rattle.vol_shared.proofs.Prefixes
pub use Rattle.vol_shared.proofs.Lists
