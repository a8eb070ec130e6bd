-- The first violation of the rule about the tree.
use Rattle.std.specs.Prelude.{◌≡◌, ◌≢◌, ℕ, ◌+◌, ◌<◌, List, Option, None, Some, length, slice_index_or}
use Rattle.vol_dir.specs.Entries.{IsDirectory}
use Rattle.vol_judge.specs.Directories.{root_of, Enters, IsReached}
use Rattle.vol_judge.specs.InodeMarks.{IsEnteredBefore, IsOnce}
use Rattle.vol_judge.specs.Steps.{rank}
use Rattle.vol_layout.specs.declared.geometry.Geometry.{Geometry}
use Rattle.vol_judge.specs.declared.finding.Finding.{Finding}
use Rattle.vol_judge.specs.declared.finding.Finding.TheVariants as findings

-- among the entries before a position, other than `.` and `..`, no two are for the same directory, and none is for the root (rule 11)
pub record HasOnceBefore (geometry : Geometry) (image : List ℕ) (place : ℕ) : Type 0 where
  pub one : (d e s f t : ℕ) → IsDirectory geometry image d → Enters geometry image e s d → Enters geometry image f t d
      → rank e s < place → rank f t < place → (e ≡ f) × (s ≡ t)
  pub root_none : (e s : ℕ) → Enters geometry image e s (root_of geometry) → rank e s < place → ⊥

-- if an entry before a position, other than `.` and `..`, is for a directory other than the root, `parents` has a directory that holds such an entry:
-- the one that the child's `..` is for, if that holds one (rules 10 and 11)
pub record NotesParentsBefore (geometry : Geometry) (image : List ℕ) (ups : List (Option ℕ)) (place : ℕ) (parents : List (Option ℕ)) : Type 0 where
  pub room : length parents ≡ geometry.last_inode + 1
  pub some : (e t i : ℕ) → IsDirectory geometry image i → i ≢ root_of geometry → Enters geometry image e t i → rank e t < place
      → (f : ℕ) × (slice_index_or parents i None ≡ Some f)
  pub named : (e t i : ℕ) → IsDirectory geometry image i → i ≢ root_of geometry → Enters geometry image e t i → rank e t < place
      → slice_index_or ups i None ≡ Some e → slice_index_or parents i None ≡ Some e
  pub only : (i e : ℕ) → slice_index_or parents i None ≡ Some e → (t : ℕ) × Enters geometry image e t i × (rank e t < place)

-- if an entry other than `.` and `..` is for a directory other than the root, `parents` has a directory that holds such an entry: the one that the
-- child's `..` is for, if that holds one (rules 10 and 11)
pub record NotesParents (geometry : Geometry) (image : List ℕ) (ups : List (Option ℕ)) (parents : List (Option ℕ)) : Type 0 where
  pub room : length parents ≡ geometry.last_inode + 1
  pub some : (e t i : ℕ) → IsDirectory geometry image i → i ≢ root_of geometry → Enters geometry image e t i
      → (f : ℕ) × (slice_index_or parents i None ≡ Some f)
  pub named : (e t i : ℕ) → IsDirectory geometry image i → i ≢ root_of geometry → Enters geometry image e t i
      → slice_index_or ups i None ≡ Some e → slice_index_or parents i None ≡ Some e
  pub only : (i e : ℕ) → slice_index_or parents i None ≡ Some e → (t : ℕ) × Enters geometry image e t i

-- if an entry other than `.` and `..` is for a directory, `parents` has the directory that holds this entry (rule 11)
pub record KnowsParents (geometry : Geometry) (image : List ℕ) (parents : List (Option ℕ)) : Type 0 where
  pub room : length parents ≡ geometry.last_inode + 1
  pub all : (e t i : ℕ) → IsDirectory geometry image i → Enters geometry image e t i → slice_index_or parents i None ≡ Some e
  pub only : (i e : ℕ) → slice_index_or parents i None ≡ Some e → (t : ℕ) × Enters geometry image e t i

-- slot s of directory d has an entry for a directory, and an earlier entry is for the same directory; neither entry is `.` or `..` (rule 11)
pub record IsSecond (geometry : Geometry) (image : List ℕ) (d s : ℕ) : Type 0 where
  pub inode : ℕ
  pub directory : IsDirectory geometry image inode
  pub enters : Enters geometry image d s inode
  pub entered : IsEnteredBefore geometry image (rank d s) inode

-- the first entry, other than `.` and `..`, that is for the root or isn't the first entry for a directory (rule 11)
abbrev pub IsEnteredAgain : Geometry → List ℕ → Finding → Type 0
IsEnteredAgain geometry image (findings.RootEntered d s) = HasOnceBefore geometry image (rank d s) × Enters geometry image d s (root_of geometry)
IsEnteredAgain geometry image (findings.EnteredTwice d s) = HasOnceBefore geometry image (rank d s) × IsSecond geometry image d s
IsEnteredAgain geometry image _ = ⊥

-- there is at most one entry for each directory and none for the root; d is the first directory that can't be reached from the root (rule 11)
pub record IsFirstUnreached (geometry : Geometry) (image : List ℕ) (d : ℕ) : Type 0 where
  pub once : IsOnce geometry image
  pub directory : IsDirectory geometry image d
  pub before : (e : ℕ) → e < d → IsDirectory geometry image e → IsReached geometry image e
  pub unreached : IsReached geometry image d → ⊥

-- the first violation of rule 11: the first entry, in the order of directories and slots, that is for the root or isn't the first entry for a
-- directory; else the first directory that can't be reached from the root (this project)
abbrev pub IsFirstTree : Geometry → List ℕ → Finding → Type 0
IsFirstTree geometry image (findings.RootEntered d s) = IsEnteredAgain geometry image (findings.RootEntered d s)
IsFirstTree geometry image (findings.EnteredTwice d s) = IsEnteredAgain geometry image (findings.EnteredTwice d s)
IsFirstTree geometry image (findings.Unreached d) = IsFirstUnreached geometry image d
IsFirstTree geometry image _ = ⊥
