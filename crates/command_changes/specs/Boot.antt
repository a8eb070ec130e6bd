-- The outcomes of `boot`.
use Rattle.std.specs.Prelude.{◌≡◌, ◌⊎◌, ◌<◌, ◌≤◌, ℕ, true, List, length, slice_index}
use Rattle.vol_dir.specs.declared.refusal.Refusal.TheVariants as refusals
use Rattle.vol_judge.specs.Sound.{IsLeastBroken, IsSound}
use Rattle.vol_layout.specs.declared.edition.Edition.{Edition}
use Rattle.command_faults.specs.Faults.{no_memory}
use Rattle.command_faults.specs.declared.fault.Fault.{Fault}
use Rattle.command_faults.specs.declared.fault.Fault.TheVariants as faults

-- the new image has a program in block 0, and zeros after it there; all other bytes are those of the old one (manual section 8, boot procedures)
pub record HasProgram (program old new : List ℕ) : Type 0 where
  pub len : length new ≡ length old
  pub put : (k : ℕ) → k < length program → slice_index new k ≡ slice_index program k
  pub zeros : (k : ℕ) → length program ≤ k → k < 512 → slice_index new k ≡ 0
  pub others : (k : ℕ) → 512 ≤ k → slice_index new k ≡ slice_index old k

-- the new image is a sound volume: the old one with a program, which a block has room for, in block 0 (this project)
abbrev pub IsBooted : Edition → List ℕ → List ℕ → List ℕ → Type 0
IsBooted edition program old new = (length program ≤ 512) × HasProgram program old new × IsSound edition new

-- a reason not to put a program into block 0: it is larger than a block; or the first rule that the volume with the
-- program breaks; or out of memory (this project)
abbrev pub IsUnbooted : Edition → List ℕ → List ℕ → Fault → Type 0
IsUnbooted edition program old fault =
    ((512 < length program) × (fault ≡ faults.Refused refusals.TooBig))
    ⊎ ((length program ≤ 512) × (((length old < 512) × (fault ≡ faults.Unsound 1))
    ⊎ ((new : List ℕ) × (rule : ℕ) × HasProgram program old new × IsLeastBroken true edition new rule × (fault ≡ faults.Unsound rule))
    ⊎ (fault ≡ no_memory)))
