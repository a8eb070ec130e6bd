-- The first violation of the rule about the entries `.` and `..`.
use Rattle.std.specs.Prelude.{◌≡◌, ◌≢◌, ℕ, ◌+◌, ◌<◌, List, Option, None, Some, length, slice_index_or}
use Rattle.vol_dir.specs.Entries.{IsDirectory, HasEntry}
use Rattle.vol_dir.specs.Names.{dot, dot_dot}
use Rattle.vol_judge.specs.Directories.{root_of, Enters}
use Rattle.vol_judge.specs.InodeMarks.{IsNamed}
use Rattle.vol_layout.specs.declared.geometry.Geometry.{Geometry}
use Rattle.vol_judge.specs.declared.finding.Finding.{Finding}
use Rattle.vol_judge.specs.declared.finding.Finding.TheVariants as findings

-- d has an entry `.` for itself (rule 10)
abbrev pub NamesItself : Geometry → List ℕ → ℕ → Type 0
NamesItself geometry image d = (s : ℕ) × HasEntry geometry image d s dot d

-- d has an entry `..`: in the root for itself, in any other directory for a directory that holds an entry for d, other than `.` and `..` (rule 10)
pub record NamesParent (geometry : Geometry) (image : List ℕ) (d : ℕ) : Type 0 where
  pub root : d ≡ root_of geometry → (s : ℕ) × HasEntry geometry image d s dot_dot d
  pub other : d ≢ root_of geometry → (s : ℕ) × (e : ℕ) × (t : ℕ) × HasEntry geometry image d s dot_dot e × Enters geometry image e t d

-- d has its entries `.` and `..` as rule 10 requires (rule 10)
pub record KeepsDots (geometry : Geometry) (image : List ℕ) (d : ℕ) : Type 0 where
  pub own : NamesItself geometry image d
  pub parent : NamesParent geometry image d

-- directory d comes before `nameless`, the first directory without an entry `.` for itself, if there is one (this project)
abbrev pub IsBeforeFirst : Option ℕ → ℕ → Type 0
IsBeforeFirst nameless d = (n : ℕ) → nameless ≡ Some n → d < n

-- `nameless` is the first directory without an entry `.` for itself, and `ups` has the i-numbers in the `..` of the directories before it (manual
-- section 5, directories)
pub record KnowsDots (geometry : Geometry) (image : List ℕ) (ups : List (Option ℕ)) (nameless : Option ℕ) : Type 0 where
  pub room : length ups ≡ geometry.last_inode + 1
  pub without : (d : ℕ) → nameless ≡ Some d → IsDirectory geometry image d × (NamesItself geometry image d → ⊥)
  pub itself : (d : ℕ) → IsDirectory geometry image d → IsBeforeFirst nameless d → NamesItself geometry image d
  pub named : (d : ℕ) → IsDirectory geometry image d → IsBeforeFirst nameless d → IsNamed geometry image d dot_dot (slice_index_or ups d None)

-- the first of the entries `.` and `..` that is missing in d (rule 10)
abbrev pub IsWrongDots : Geometry → List ℕ → ℕ → Finding → Type 0
IsWrongDots geometry image d (findings.NoDot e) = (e ≡ d) × (NamesItself geometry image d → ⊥)
IsWrongDots geometry image d (findings.NoDotDot e) = (e ≡ d) × NamesItself geometry image d × (NamesParent geometry image d → ⊥)
IsWrongDots geometry image d _ = ⊥

-- the first violation of rule 10: in the first directory that lacks its entry `.` or `..`, the first of the two that it lacks (this project)
pub record IsFirstDots (geometry : Geometry) (image : List ℕ) (finding : Finding) : Type 0 where
  pub d : ℕ
  pub directory : IsDirectory geometry image d
  pub before : (e : ℕ) → e < d → IsDirectory geometry image e → KeepsDots geometry image e
  pub wrong : IsWrongDots geometry image d finding
