use Rattle.std.proofs.Common.{◌≡◌, ◌≤◌, ◌-◌, ◌∷◌, []}
use Rattle.std.specs.Prelude.{string_bytes}
use Rattle.host_files.specs.Folders.{AreListed}
use Rattle.host_files.specs.declared.folders.Found.{Found}
use Rattle.host_files.specs.declared.folders.FoundKind.TheVariants.{Folder}
use Rattle.host_files.proofs.tree.tree_below.Given as goal

-- Invariant: after so many visits, from the folder on, this is left on the stack, and these were visited.
abbrev pub invariant-visits : goal.invariant-visits
invariant-visits g l =
    ((root : Found) × (root.kind ≡ Folder) × (string_bytes root.path ≡ l.folder) × AreListed g.R.ImageFiles.listed l.visited (root ∷ []) l.stack.items l.members.items)
    × (l.visited ≤ 4294967295)

abbrev pub decreases-visits : goal.decreases-visits
decreases-visits g l = 4294967295 - l.visited
