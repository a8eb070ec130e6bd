-- The entries `.` and `..` of directories, and the entries for them.
use Rattle.std.specs.Prelude.{◌≡◌, ℕ, ◌+◌, ◌<◌, List, Option, None, Some, length, slice_index_or}
use Rattle.vol_dir.specs.Entries.{IsDirectory, HasEntry}
use Rattle.vol_dir.specs.Names.{dot, dot_dot}
use Rattle.vol_layout.specs.declared.geometry.Geometry.{Geometry}
use Rattle.vol_judge.specs.Directories.{root_of, Enters}
use Rattle.vol_judge.specs.Steps.{rank}

-- `number` is the i-number of the entry with this name in directory d, or None if there is no such entry (manual section 5, directories)
pub record IsNamed (geometry : Geometry) (image : List ℕ) (d : ℕ) (name : List ℕ) (number : Option ℕ) : Type 0 where
  pub all : (s i : ℕ) → HasEntry geometry image d s name i → number ≡ Some i
  pub only : (i : ℕ) → number ≡ Some i → (s : ℕ) × HasEntry geometry image d s name i

-- `ups` has the i-numbers in the `..` of the directories before d (manual section 5, directories)
pub record HasUpsBelow (geometry : Geometry) (image : List ℕ) (d : ℕ) (ups : List (Option ℕ)) : Type 0 where
  pub room : length ups ≡ geometry.last_inode + 1
  pub named : (e : ℕ) → e < d → IsDirectory geometry image e → IsNamed geometry image e dot_dot (slice_index_or ups e None)

-- `number` is the i-number of the entry with this name in directory d; it may be None if the slots below n have no such entry (manual section 5,
-- directories)
pub record IsNamedUpTo (geometry : Geometry) (image : List ℕ) (d n : ℕ) (name : List ℕ) (number : Option ℕ) : Type 0 where
  pub all : (s i : ℕ) → s < n → HasEntry geometry image d s name i → number ≡ Some i
  pub only : (i : ℕ) → number ≡ Some i → (s : ℕ) × HasEntry geometry image d s name i

-- each directory before d has an entry `.` for itself, and `ups` has the i-numbers in their `..` (rule 10)
pub record NameThemselvesBelow (geometry : Geometry) (image : List ℕ) (d : ℕ) (ups : List (Option ℕ)) : Type 0 where
  pub itself : (e : ℕ) → e < d → IsDirectory geometry image e → (s : ℕ) × HasEntry geometry image e s dot e
  pub named : HasUpsBelow geometry image d ups

-- an entry before a position, other than `.` and `..`, is for i-number i (this project)
pub record IsEnteredBefore (geometry : Geometry) (image : List ℕ) (place i : ℕ) : Type 0 where
  pub directory : ℕ
  pub slot : ℕ
  pub enters : Enters geometry image directory slot i
  pub before : rank directory slot < place

-- there is at most one entry other than `.` and `..` for each directory, and none for the root (rule 11)
pub record IsOnce (geometry : Geometry) (image : List ℕ) : Type 0 where
  pub one : (d e s f t : ℕ) → IsDirectory geometry image d → Enters geometry image e s d → Enters geometry image f t d → (e ≡ f) × (s ≡ t)
  pub root_none : (e s : ℕ) → Enters geometry image e s (root_of geometry) → ⊥
