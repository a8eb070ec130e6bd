-- The entries of one directory, as rule 9 requires them.
use Rattle.std.specs.Prelude.{◌≡◌, ◌≢◌, ℕ, ◌%◌, ◌<◌, ◌≤◌, ◌==◌, Bool, true, false, List, [], Some}
use Rattle.std.specs.List.{list_any}
use Rattle.std.specs.BTreeSet.{BTreeSet, contains}
use Rattle.std.specs.Ordering.{nat_cmp}
use Rattle.vol_layout.specs.Edition.{constants}
use Rattle.vol_file.specs.Rules.{size_of, kind_at}
use Rattle.vol_dir.specs.Entries.{entry_at}
use Rattle.vol_dir.specs.NameKeys.{key_of, IsSlotName}
use Rattle.vol_layout.specs.declared.geometry.Geometry.{Geometry}
use Rattle.vol_layout.specs.declared.mode.Kind.TheVariants as kinds

-- an entry has a name that isn't empty and has no slash, and an i-number in the range from the root's to the last, whose i-node is allocated (rule 9)
pub record IsValidEntry (geometry : Geometry) (image name : List ℕ) (i : ℕ) : Type 0 where
  pub some : name ≢ []
  pub no_slash : list_any (λ c. c == 47) name ≡ false
  pub first : (constants geometry.edition).root ≤ i
  pub last : i ≤ geometry.last_inode
  pub allocated : kind_at geometry image i ≢ kinds.Free

-- the slots of directory d below slot n keep rule 9 (this project)
pub record HasEntriesBelow (geometry : Geometry) (image : List ℕ) (d n : ℕ) : Type 0 where
  pub entries : (t i : ℕ) (name : List ℕ) → t < n → entry_at geometry image d t ≡ Some (name, i) → IsValidEntry geometry image name i
  pub once : (s t i j : ℕ) (name : List ℕ) → s < n → t < n → entry_at geometry image d s ≡ Some (name, i)
      → entry_at geometry image d t ≡ Some (name, j) → s ≡ t

-- directory d keeps rule 9 (this project)
pub record HasEntriesIn (geometry : Geometry) (image : List ℕ) (d : ℕ) : Type 0 where
  pub whole : size_of geometry image d % 16 ≡ 0
  pub entries : (t i : ℕ) (name : List ℕ) → entry_at geometry image d t ≡ Some (name, i) → IsValidEntry geometry image name i
  pub once : (s t i j : ℕ) (name : List ℕ) → entry_at geometry image d s ≡ Some (name, i)
      → entry_at geometry image d t ≡ Some (name, j) → s ≡ t

-- an entry of directory d below slot n has this name (manual section 5, directories)
pub record IsNamedBelow (geometry : Geometry) (image : List ℕ) (d n : ℕ) (name : List ℕ) : Type 0 where
  pub slot : ℕ
  pub inode : ℕ
  pub below : slot < n
  pub entry : entry_at geometry image d slot ≡ Some (name, inode)

-- a set of numbers of names has this one (this project)
abbrev pub is_in : BTreeSet ℕ → ℕ → Bool
is_in keys key = contains nat_cmp keys key

-- an entry of directory d below slot n has a name with this number (this project)
pub record IsKeyedBelow (geometry : Geometry) (image : List ℕ) (d n key : ℕ) : Type 0 where
  pub name : List ℕ
  pub stored : IsSlotName name
  pub numbered : key_of name ≡ key
  pub named : IsNamedBelow geometry image d n name

-- the set has exactly the numbers of the names of the entries of directory d below slot n (this project)
pub record HoldsNamesBelow (geometry : Geometry) (image : List ℕ) (d n : ℕ) (keys : BTreeSet ℕ) : Type 0 where
  pub all : (t i : ℕ) (name : List ℕ) → t < n → entry_at geometry image d t ≡ Some (name, i) → is_in keys (key_of name) ≡ true
  pub only : (key : ℕ) → is_in keys key ≡ true → IsKeyedBelow geometry image d n key
