-- The entries of a directory in two images, slot by slot.
use Rattle.std.specs.Prelude.{◌≡◌, ℕ, ◌<◌, ◌≤◌, List, Option, None, MatchOption}
use Rattle.vol_dir.specs.Entries.{entry_in}
use Rattle.vol_layout.specs.declared.geometry.Geometry.{Geometry}
use Rattle.vol_layout.specs.declared.slot.Slot.{Slot}
use Rattle.vol_repair.specs.Lines.{dir_entry}
use Rattle.vol_repair.specs.declared.entry_pairs.SlotPair.{SlotPair}

-- slot s is the first slot of directory d, at or after slot `from`, that has an entry, and this is its content (this project)
pub record IsEntryNext (geometry : Geometry) (image : List ℕ) (d from s : ℕ) (slot : Slot) : Type 0 where
  pub reached : from ≤ s
  pub low : s < 67637568
  pub holds : dir_entry geometry image d s ≡ entry_in slot
  pub before : (t : ℕ) → from ≤ t → t < s → dir_entry geometry image d t ≡ None

-- the result of a search for the first entry of directory d at or after slot `from` (this project)
abbrev pub IsFirstEntry : Geometry → List ℕ → ℕ → ℕ → Option (ℕ × Slot) → Type 0
IsFirstEntry geometry image d from result =
    MatchOption result ((t : ℕ) → from ≤ t → dir_entry geometry image d t ≡ None) (λ found. IsEntryNext geometry image d from found.0 found.1)

-- no slot of directory d, at or after slot `from`, has an entry in one of the images (this project)
abbrev pub IsPastPairs : Geometry → List ℕ → List ℕ → ℕ → ℕ → Type 0
IsPastPairs geometry old new d from =
    (t : ℕ) → from ≤ t → (dir_entry geometry old d t ≡ None) × (dir_entry geometry new d t ≡ None)

-- the pair is of the first slot of directory d, at or after slot `from`, that has an entry in one of the images (this project)
pub record IsNextPair (geometry : Geometry) (old new : List ℕ) (d from : ℕ) (pair : SlotPair) : Type 0 where
  pub reached : from ≤ pair.number
  pub low : pair.number < 67637568
  pub was : dir_entry geometry old d pair.number ≡ entry_in pair.old
  pub is : dir_entry geometry new d pair.number ≡ entry_in pair.new
  pub before : (t : ℕ) → from ≤ t → t < pair.number → (dir_entry geometry old d t ≡ None) × (dir_entry geometry new d t ≡ None)
