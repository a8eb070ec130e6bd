-- Removing a path, all or nothing.
use Rattle.std.specs.Prelude.{◌≡◌, ℕ, List, true, Err}
use Rattle.vol_layout.specs.Geometry.{geometry_of}
use Rattle.vol_judge.specs.Sound.{IsSound, IsLeastBroken}
use Rattle.vol_volume.specs.Answer.{answer}
use Rattle.vol_volume.specs.Faults.{IsFaultOf}
use Rattle.vol_volume.specs.Volume.{Mounted, mounted, reads_as}
use Rattle.vol_batch.specs.Batch.{AreMade, AreStopped, MakesCalls}
use Rattle.vol_dir.specs.declared.refusal.Refusal.{Refusal}
use Rattle.vol_dir.specs.declared.refusal.Refusal.TheVariants.{NoEntry}
use Rattle.vol_layout.specs.declared.edition.Edition.{Edition}
use Rattle.vol_dir.specs.Access.{user}
use Rattle.vol_volume.specs.declared.calls.Call.{Call}
use Rattle.vol_volume.specs.declared.queries.Query.TheVariants as queries
use Rattle.vol_batch.specs.FreedNumbers.{FreesNumbers, FreesBlocks}
use Rattle.vol_batch.specs.Removal.{IsRemoval}
use Rattle.vol_volume.specs.declared.volume.MountFault.{MountFault}
use Rattle.vol_volume.specs.declared.volume.MountFault.TheVariants as mounts
use Rattle.vol_batch.specs.declared.faults.RemovalFault.{RemovalFault}
use Rattle.vol_batch.specs.declared.faults.RemovalFault.TheVariants as faults

-- the bytes are the result of making all calls that remove a path, and everything below it, on a sound image; the path then leads nowhere, and nodes
-- that lost their last name are free, with their blocks (rm)
pub record Removes (edition : Edition) (image : List ℕ) (path : List ℕ) (now : ℕ) (bytes : List ℕ) : Type 0 where
  pub calls : List Call
  pub removal : IsRemoval (reads_as edition image).tree path now calls
  pub made : MakesCalls edition image calls bytes
  pub gone : answer (reads_as edition bytes).tree (queries.Stat user path) ≡ Err NoEntry
  pub numbers : FreesNumbers (reads_as edition image).tree calls (reads_as edition bytes).tree
  pub blocks : FreesBlocks (geometry_of edition image) image bytes

-- a volume was mounted from an image, and accepted all calls that remove a path, and everything below it; its bytes are their result (rm)
pub record RemovesTo (edition : Edition) (image : List ℕ) (path : List ℕ) (now : ℕ) (volume : Mounted) : Type 0 where
  pub removes : Removes edition image path now volume.image
  pub accepts : AreMade (mounted edition image) removes.calls volume

-- one of the calls that remove a path is refused, after the calls before it were accepted (this project)
pub record IsRefused (edition : Edition) (image : List ℕ) (path : List ℕ) (now : ℕ) (refusal : Refusal) (call : Call) : Type 0 where
  pub calls : List Call
  pub removal : IsRemoval (reads_as edition image).tree path now calls
  pub volume : Mounted
  pub stopped : AreStopped (mounted edition image) calls volume refusal call

-- a reason not to remove a path: the first rule that the image breaks; for a sound image, that the path leads nowhere, or a refusal of one of the
-- calls; or NoMemory (this project)
unfoldable pub IsReason : Edition → List ℕ → List ℕ → ℕ → RemovalFault → Type 0
IsReason edition image path now (faults.Unsound rule) = IsLeastBroken true edition image rule
IsReason edition image path now (faults.Missing refusal) = IsSound edition image × (answer (reads_as edition image).tree (queries.Stat user path) ≡ Err refusal)
IsReason edition image path now (faults.Refused refusal call) = IsSound edition image × IsRefused edition image path now refusal call
IsReason edition image path now faults.NoMemory = Unit {0}

-- the removal fault of a volume that isn't mounted for this reason (this project)
abbrev pub unmounted : MountFault → RemovalFault
unmounted (mounts.Unsound rule) = faults.Unsound rule
unmounted mounts.NoMemory = faults.NoMemory

-- an image isn't mounted for this reason: NoMemory, or the first rule that it breaks (this project)
unfoldable pub IsUnmounted : Edition → List ℕ → RemovalFault → Type 0
IsUnmounted edition image fault = (why : MountFault) × (fault ≡ unmounted why) × IsFaultOf edition image why

-- calls aren't made for this reason: one of them is refused, or memory runs out (this project)
unfoldable pub IsStop : Mounted → List Call → Mounted → RemovalFault → Type 0
IsStop old calls new (faults.Refused refusal call) = AreStopped old calls new refusal call
IsStop old calls new faults.NoMemory = Unit {0}
IsStop old calls new (faults.Unsound rule) = ⊥
IsStop old calls new (faults.Missing refusal) = ⊥
