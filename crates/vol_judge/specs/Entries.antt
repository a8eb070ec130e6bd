-- The first violation of the rule about entries.
use Rattle.std.specs.Prelude.{◌≡◌, ◌≢◌, ℕ, ◌%◌, ◌<◌, ◌≤◌, ◌==◌, ◌⊎◌, true, false, List, [], Some}
use Rattle.std.specs.List.{list_any}
use Rattle.vol_layout.specs.Edition.{constants}
use Rattle.vol_file.specs.Rules.{size_of, kind_at}
use Rattle.vol_dir.specs.Entries.{entry_at, IsDirectory}
use Rattle.vol_judge.specs.DirectoryNames.{IsValidEntry, HasEntriesBelow, HasEntriesIn, IsNamedBelow}
use Rattle.vol_layout.specs.declared.geometry.Geometry.{Geometry}
use Rattle.vol_layout.specs.declared.mode.Kind.TheVariants as kinds
use Rattle.vol_judge.specs.declared.finding.Finding.{Finding}
use Rattle.vol_judge.specs.declared.finding.Finding.TheVariants as findings

-- a name is not empty and has no slash (rule 9)
abbrev pub IsName : List ℕ → Type 0
IsName name = (name ≢ []) × (list_any (λ c. c == 47) name ≡ false)

-- an i-number is in the range from the root's to the last (rule 9)
abbrev pub IsNumbered : Geometry → ℕ → Type 0
IsNumbered geometry i = ((constants geometry.edition).root ≤ i) × (i ≤ geometry.last_inode)

-- the first defect of the entry in slot s of directory d: its name is checked first, then its i-number, then the i-node (rule 9)
abbrev pub IsWrongEntry : Geometry → List ℕ → ℕ → ℕ → List ℕ → ℕ → Finding → Type 0
IsWrongEntry geometry image d s name i (findings.NoName e t) = (e ≡ d) × (t ≡ s) × (name ≡ [])
IsWrongEntry geometry image d s name i (findings.Slash e t) =
    (e ≡ d) × (t ≡ s) × (name ≢ []) × (list_any (λ c. c == 47) name ≡ true)
IsWrongEntry geometry image d s name i (findings.BadNumber e t) = (e ≡ d) × (t ≡ s) × IsName name × (IsNumbered geometry i → ⊥)
IsWrongEntry geometry image d s name i (findings.FreeInode e t) =
    (e ≡ d) × (t ≡ s) × IsName name × IsNumbered geometry i × (kind_at geometry image i ≡ kinds.Free)
IsWrongEntry geometry image d s name i _ = ⊥

-- slot s has the first violation of rule 9 in directory d: a defective entry, or one with the same name as an earlier entry (rule 9)
pub record IsFirstSlot (geometry : Geometry) (image : List ℕ) (d s : ℕ) (finding : Finding) : Type 0 where
  pub name : List ℕ
  pub inode : ℕ
  pub whole : size_of geometry image d % 16 ≡ 0
  pub below : HasEntriesBelow geometry image d s
  pub entry : entry_at geometry image d s ≡ Some (name, inode)
  pub wrong : IsWrongEntry geometry image d s name inode finding
      ⊎ ((finding ≡ findings.SameName d s) × IsValidEntry geometry image name inode × IsNamedBelow geometry image d s name)

-- the first violation of rule 9 in directory d: a size that isn't a whole number of slots, or else the first slot that breaks the rule (rule 9)
abbrev pub IsFirstIn : Geometry → List ℕ → ℕ → Finding → Type 0
IsFirstIn geometry image d finding =
    ((finding ≡ findings.PartSlot d) × (size_of geometry image d % 16 ≢ 0)) ⊎ ((s : ℕ) × IsFirstSlot geometry image d s finding)

-- the first violation of rule 9: the size of the first directory that breaks it, or the first slot there that does (this project)
pub record IsFirstEntry (geometry : Geometry) (image : List ℕ) (finding : Finding) : Type 0 where
  pub d : ℕ
  pub directory : IsDirectory geometry image d
  pub before : (e : ℕ) → e < d → IsDirectory geometry image e → HasEntriesIn geometry image e
  pub first : IsFirstIn geometry image d finding
