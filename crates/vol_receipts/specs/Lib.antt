pub use Rattle.vol_volume.specs.Answer
pub use Rattle.vol_volume.specs.Verdict
pub use Rattle.vol_volume.specs.Volume
pub mod Agrees
pub mod Findings
pub mod Replay
