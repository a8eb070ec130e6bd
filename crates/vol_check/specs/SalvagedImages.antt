-- Salvage: rebuilding the free list of an image that is otherwise sound.
use Rattle.std.specs.Prelude.{◌≡◌, ℕ, Bool, false, List}
use Rattle.vol_layout.specs.Geometry.{geometry_of}
use Rattle.vol_free.specs.Rebuild.{unused, KeepsUsed}
use Rattle.vol_free.specs.Stack.{IsFree}
use Rattle.vol_dir.specs.Tree.{state}
use Rattle.vol_judge.specs.Marks.{AreNamed}
use Rattle.vol_judge.specs.Sound.{IsLeastBroken, IsSound, KeepsRules}
use Rattle.vol_change.specs.Whole.{StaysAround}
use Rattle.vol_layout.specs.declared.edition.Edition.{Edition}
use Rattle.vol_check.specs.declared.salvage_volume.SalvageFault.{SalvageFault}
use Rattle.vol_check.specs.declared.salvage_volume.SalvageFault.TheVariants as faults

-- an image that broke only the rules about the free list is now sound, with the same tree and shapes as before; the data blocks that belong to no
-- file are free, in ascending order, and all bytes are unchanged except in these blocks and in the super-block's free list (icheck -s)
pub record IsSalvaged (edition : Edition) (old new : List ℕ) : Type 0 where
  pub rules : KeepsRules false edition old
  pub sound : IsSound edition new
  pub reads : state (geometry_of edition new) new ≡ state (geometry_of edition old) old
  pub around : StaysAround (geometry_of edition old) old new
  pub used : List Bool
  pub named : AreNamed (geometry_of edition old) old used
  pub free : IsFree (geometry_of edition old) new (unused (geometry_of edition old) used)
  pub stays : KeepsUsed (geometry_of edition old) used old new

-- the reason why an image isn't salvaged: NoMemory, or the first broken rule that isn't about the free list (this project)
abbrev pub IsSalvageFault : Edition → List ℕ → SalvageFault → Type 0
IsSalvageFault edition bytes faults.NoMemory = Unit {0}
IsSalvageFault edition bytes (faults.Unsound n) = IsLeastBroken false edition bytes n
