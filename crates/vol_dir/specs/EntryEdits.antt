-- Adding and removing an entry of a directory.
use Rattle.std.specs.Prelude.{◌≡◌, ℕ, ◌+◌, ◌/◌, ◌%◌, true, List, ◌∷◌, ◌++◌, take, drop}
use Rattle.vol_layout.specs.Slot.{padded_name}
use Rattle.vol_layout.specs.declared.geometry.Geometry.{Geometry}
use Rattle.vol_dir.specs.Entries.{entry_at}
use Rattle.vol_dir.specs.Search.{holds}

-- the bytes of a slot with this name and i-number (manual section 5, directories)
abbrev pub slot_bytes : List ℕ → ℕ → List ℕ
slot_bytes name i = (i % 256) ∷ (i / 256) ∷ padded_name name

-- a list in which item s is replaced by another item, or to which this item is appended if s is its length (this project)
abbrev pub with_item : {X : Type 0} → List X → ℕ → X → List X
with_item xs s x = take s xs ++ (x ∷ drop (s + 1) xs)

-- no name occurs twice in directory d (manual section 5, directories; rule 9)
pub record HasNamesOnce (geometry : Geometry) (image : List ℕ) (d : ℕ) : Type 0 where
  pub once : (name : List ℕ) (s t : ℕ) → holds name (entry_at geometry image d s) ≡ true → holds name (entry_at geometry image d t) ≡ true → s ≡ t
