-- Looks at an image with lost blocks whose path leads to no directory.
use Rattle.std.specs.Prelude.{◌≡◌, ◌⊎◌, ℕ, Bool, List, [], None, Some, Err}
use Rattle.vol_dir.specs.declared.directories.DirectoryFault.{DirectoryFault}
use Rattle.vol_layout.specs.declared.edition.Edition.{Edition}
use Rattle.command_faults.specs.Faults.{no_memory}
use Rattle.command_faults.specs.declared.fault.Fault.{Fault}
use Rattle.command_reads.specs.Export.{begun, unstarted}
use Rattle.command_reads.specs.Ways.{TellsWay}

-- a path leads to no directory, but something is lost on the way: nothing is shown, with the lines about that and status 5 (this project)
abbrev pub IsUnreached : Bool → Edition → List ℕ → List Bool → List ℕ → List ℕ → ℕ → List ℕ → Type 0
IsUnreached orphans edition image lost path text status lines =
    (why : DirectoryFault) × (begun orphans edition image path ≡ Err why) × TellsWay edition image lost path why (Some lines)
    × (text ≡ []) × (status ≡ 5)

-- the reason why nothing is shown: memory ran out, or the path leads to no directory, and nothing is lost on the way (this project)
abbrev pub IsUnreachedFault : Bool → Edition → List ℕ → List Bool → List ℕ → Fault → Type 0
IsUnreachedFault orphans edition image lost path fault =
    (fault ≡ no_memory)
    ⊎ ((why : DirectoryFault) × (begun orphans edition image path ≡ Err why) × TellsWay edition image lost path why None × (fault ≡ unstarted why))
