pub use Rattle.vol_scripts.specs.Journal
pub use Rattle.vol_volume.specs.Volume
pub mod Indent
pub mod Replay
pub mod Trace
