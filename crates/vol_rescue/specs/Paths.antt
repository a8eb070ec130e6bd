-- Statements of the law about the paths of entries in an image with lost blocks.
use Rattle.std.specs.Prelude.{◌≡◌, ℕ, Bool, List, ◌∷◌, ◌++◌, All, None, Ok}
use Rattle.vol_archive.specs.Laws.{members_of}
use Rattle.vol_archive.specs.Walk.{IsWalk}
use Rattle.vol_archive.specs.declared.met_entries.MetEntry.{MetEntry}
use Rattle.vol_archive.specs.declared.met_entries.Role.TheVariants as roles
use Rattle.vol_dir.specs.Access.{user}
use Rattle.vol_dir.specs.Entries.{IsDirectory}
use Rattle.vol_dir.specs.Tree.{tree}
use Rattle.vol_dir.specs.Walk.{components, walk_from}
use Rattle.vol_layout.specs.Geometry.{Fits}
use Rattle.vol_layout.specs.declared.geometry.Geometry.{Geometry}
use Rattle.vol_losses.specs.Losses.{AgreesOutside}
use Rattle.vol_rescue.specs.Damage.{damage_of}
use Rattle.vol_rescue.specs.Lines.{top_entry}

-- if this entry is a directory above a path, it has no damage: neither its i-node nor a byte of it is lost (this project)
abbrev pub IsSoundAbove : Geometry → List ℕ → List Bool → List ℕ → MetEntry → Type 0
IsSoundAbove geometry image lost path found = found.role ≡ roles.Directory
    → (name : List ℕ) (rest : List (List ℕ)) → components found.path ++ name ∷ rest ≡ components path → damage_of geometry image lost found ≡ None

-- no directory above a path has damage: neither the one where the walk began, nor one that was visited, which is named as an entry with that path (this
-- project)
pub record AreSoundAbove (geometry : Geometry) (image : List ℕ) (lost : List Bool) (start : ℕ) (founds : List MetEntry) (path : List ℕ) : Type 0 where
  pub top : damage_of geometry image lost (top_entry start) ≡ None
  pub above : All (IsSoundAbove geometry image lost path) founds

-- the path of each member above which no directory has damage leads to the member's i-number, as user 0 walks it, in every image that agrees outside the
-- lost blocks, whether the member itself has damage or not (this project's law)
abbrev pub PathsLeadRight : Type 0
PathsLeadRight = (geometry : Geometry) (lost : List Bool) (old new : List ℕ) (start : ℕ) (founds : List MetEntry) → Fits geometry old → AgreesOutside geometry lost old new
    → IsDirectory geometry old start → IsWalk geometry old start founds
    → All (λ (found : MetEntry). AreSoundAbove geometry old lost start founds found.path
    → walk_from (tree geometry new) user start (components found.path) ≡ Ok found.inode) (members_of founds)
