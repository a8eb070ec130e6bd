pub use Rattle.vol_dir.specs.Tree
pub use Rattle.vol_free.specs.Rebuild
pub use Rattle.vol_free.specs.Stack
pub use Rattle.vol_judge.specs.Marks
pub use Rattle.vol_judge.specs.Sound
pub use Rattle.vol_layout.specs.Edition
pub use Rattle.vol_layout.specs.Geometry
pub mod Resized
