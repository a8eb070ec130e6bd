-- The reason why an image isn't mounted.
use Rattle.std.specs.Prelude.{ℕ, true, List}
use Rattle.vol_judge.specs.Sound.{IsLeastBroken}
use Rattle.vol_layout.specs.declared.edition.Edition.{Edition}
use Rattle.vol_volume.specs.declared.volume.MountFault.{MountFault}
use Rattle.vol_volume.specs.declared.volume.MountFault.TheVariants as faults

-- the reason why bytes can't be mounted: NoMemory, or the first rule that fails (this project)
abbrev pub IsFaultOf : Edition → List ℕ → MountFault → Type 0
IsFaultOf edition bytes faults.NoMemory = Unit {0}
IsFaultOf edition bytes (faults.Unsound n) = IsLeastBroken true edition bytes n
