-- Noting the entries of all directories, one after another.
use Rattle.std.specs.Prelude.{ℕ, ◌≤◌, ◌<◌, IfNone, IfSome, List, Option}
use Rattle.vol_dir.specs.Entries.{HasEntry}
use Rattle.vol_layout.specs.declared.geometry.Geometry.{Geometry}
use Rattle.vol_judge.specs.DirectoryTree.{NotesParentsBefore, HasOnceBefore, IsEnteredAgain}
use Rattle.vol_judge.specs.EntryCounts.{CountsBefore}
use Rattle.vol_judge.specs.Steps.{rank}
use Rattle.vol_judge.specs.declared.directories.entered.Entered.{Entered}

-- the entries before a position are noted: the parents of directories, the first violation of rule 11 among them, and their counts (this project)
pub record NotesBefore (geometry : Geometry) (image : List ℕ) (ups : List (Option ℕ)) (place : ℕ) (found : Entered) : Type 0 where
  pub parents : NotesParentsBefore geometry image ups place found.parents.items
  pub once : IfNone found.again (HasOnceBefore geometry image place)
  pub again : IfSome found.again (IsEnteredAgain geometry image)
  pub counts : CountsBefore geometry image place found.counts.items

-- the entries before slot s of directory d are noted (this project)
pub record NotesUpTo (geometry : Geometry) (image : List ℕ) (ups : List (Option ℕ)) (d s : ℕ) (found : Entered) : Type 0 where
  pub place : ℕ
  pub notes : NotesBefore geometry image ups place found
  pub reached : place ≤ rank d s
  pub passed : (e t i : ℕ) (name : List ℕ) → HasEntry geometry image e t name i → rank e t < rank d s → rank e t < place
