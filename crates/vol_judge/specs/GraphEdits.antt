-- The changes that calls make in the graph of directories.
use Rattle.std.specs.Prelude.{◌≡◌, ◌≢◌, ℕ, ◌+◌, ◌%◌, ◌≤◌, ◌<◌, ◌==◌, true, false, List, [], Option, None, Some}
use Rattle.std.specs.List.{list_any}
use Rattle.vol_dir.specs.Names.{dot, dot_dot, is_dots}
use Rattle.vol_judge.specs.Graph.{Graph}
use Rattle.vol_layout.specs.declared.mode.Kind.TheVariants as kinds

-- kinds, entries, the sizes of directories, and the link counts of i-nodes that aren't free are unchanged (Lions on writei, itrunc)
pub record IsSameGraph (old new : Graph) : Type 0 where
  pub kind : (i : ℕ) → new.kind i ≡ old.kind i
  pub links : (i : ℕ) → old.kind i ≢ kinds.Free → new.links i ≡ old.links i
  pub size : (d : ℕ) → old.kind d ≡ kinds.Directory → new.size d ≡ old.size d
  pub entry : (d s : ℕ) → new.entry d s ≡ old.entry d s

-- a name that is valid for an entry, and that directory d doesn't have (manual section 5, directories)
pub record IsNewName (graph : Graph) (d : ℕ) (name : List ℕ) : Type 0 where
  pub fresh : (s i : ℕ) → graph.entry d s ≡ Some (name, i) → ⊥
  pub some : name ≢ []
  pub plain : list_any (λ c. c == 47) name ≡ false

-- slot s of directory d changes from one entry to another, and no other slot of d changes; d has a whole number of slots (Lions on wdir)
pub record ChangesSlot (old new : Graph) (d s : ℕ) (before after : Option (List ℕ × ℕ)) : Type 0 where
  pub directory : old.kind d ≡ kinds.Directory
  pub was : old.entry d s ≡ before
  pub is : new.entry d s ≡ after
  pub beside : (t : ℕ) → t ≢ s → new.entry d t ≡ old.entry d t
  pub whole : new.size d % 16 ≡ 0

-- except for directory d and i-number i, kinds, entries and the sizes of directories are unchanged (this project)
pub record KeepsOthers (old new : Graph) (d i : ℕ) : Type 0 where
  pub kind : (x : ℕ) → x ≢ i → new.kind x ≡ old.kind x
  pub size : (x : ℕ) → x ≢ d → x ≢ i → old.kind x ≡ kinds.Directory → new.size x ≡ old.size x
  pub entry : (x t : ℕ) → x ≢ d → x ≢ i → new.entry x t ≡ old.entry x t

-- a regular file is created, with its name in slot s of directory d (Lions on maknode)
pub record AddsFile (old new : Graph) (made d s : ℕ) (name : List ℕ) : Type 0 where
  pub slot : ChangesSlot old new d s None (Some (name, made))
  pub others : KeepsOthers old new d made
  pub was : old.kind made ≡ kinds.Free
  pub used : new.kind made ≢ kinds.Free
  pub other : new.kind made ≢ kinds.Directory
  pub links : new.links made ≡ 1
  pub kept : (x : ℕ) → x ≢ made → old.kind x ≢ kinds.Free → new.links x ≡ old.links x

-- a directory is created, with `.` and `..` in its first two slots, and its name in slot s of directory d (mkdir)
pub record AddsDirectory (old new : Graph) (made d s : ℕ) (name : List ℕ) : Type 0 where
  pub slot : ChangesSlot old new d s None (Some (name, made))
  pub others : KeepsOthers old new d made
  pub was : old.kind made ≡ kinds.Free
  pub kind : new.kind made ≡ kinds.Directory
  pub links : new.links made ≡ 2
  pub size : new.size made ≡ 32
  pub itself : new.entry made 0 ≡ Some (dot, made)
  pub parent : new.entry made 1 ≡ Some (dot_dot, d)
  pub rest : (t : ℕ) → 2 ≤ t → new.entry made t ≡ None
  pub more : new.links d ≡ old.links d + 1
  pub kept : (x : ℕ) → x ≢ made → x ≢ d → old.kind x ≢ kinds.Free → new.links x ≡ old.links x

-- i, which isn't a directory, gets one more name, in slot s of directory d (Lions on link)
pub record AddsLink (old new : Graph) (i d s : ℕ) (name : List ℕ) : Type 0 where
  pub slot : ChangesSlot old new d s None (Some (name, i))
  pub others : KeepsOthers old new d i
  pub used : old.kind i ≢ kinds.Free
  pub other : old.kind i ≢ kinds.Directory
  pub kind : new.kind i ≡ old.kind i
  pub links : new.links i ≡ old.links i + 1
  pub kept : (x : ℕ) → x ≢ i → old.kind x ≢ kinds.Free → new.links x ≡ old.links x

-- i, which isn't a directory, loses its name in slot s of directory d, and has another one (Lions on unlink)
pub record DropsName (old new : Graph) (i d s : ℕ) (name : List ℕ) : Type 0 where
  pub slot : ChangesSlot old new d s (Some (name, i)) None
  pub others : KeepsOthers old new d i
  pub other : old.kind i ≢ kinds.Directory
  pub kind : new.kind i ≡ old.kind i
  pub most : 1 < old.links i
  pub links : new.links i + 1 ≡ old.links i
  pub kept : (x : ℕ) → x ≢ i → old.kind x ≢ kinds.Free → new.links x ≡ old.links x

-- i, which isn't a directory, loses its last name, in slot s of directory d, and is freed (Lions on unlink, iput)
pub record DropsFile (old new : Graph) (i d s : ℕ) (name : List ℕ) : Type 0 where
  pub slot : ChangesSlot old new d s (Some (name, i)) None
  pub others : KeepsOthers old new d i
  pub other : old.kind i ≢ kinds.Directory
  pub kind : new.kind i ≡ kinds.Free
  pub last : old.links i ≤ 1
  pub kept : (x : ℕ) → x ≢ i → old.kind x ≢ kinds.Free → new.links x ≡ old.links x

-- a directory with no entries but `.` and `..` loses its name, in slot s of directory d, and is freed (rmdir)
pub record DropsDirectory (old new : Graph) (i d s : ℕ) (name : List ℕ) : Type 0 where
  pub slot : ChangesSlot old new d s (Some (name, i)) None
  pub others : KeepsOthers old new d i
  pub named : is_dots name ≡ false
  pub was : old.kind i ≡ kinds.Directory
  pub only : (t j : ℕ) (word : List ℕ) → old.entry i t ≡ Some (word, j) → is_dots word ≡ true
  pub kind : new.kind i ≡ kinds.Free
  pub less : new.links d + 1 ≡ old.links d
  pub kept : (x : ℕ) → x ≢ i → x ≢ d → old.kind x ≢ kinds.Free → new.links x ≡ old.links x
