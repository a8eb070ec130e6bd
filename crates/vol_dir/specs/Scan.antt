-- Iterating over the entries of a directory, slot by slot.
use Rattle.std.specs.Prelude.{◌≡◌, ◌≢◌, ℕ, ◌<◌, ◌≤◌, List, Option, None, MatchOption}
use Rattle.vol_dir.specs.Entries.{entry_in}
use Rattle.vol_layout.specs.declared.slot.Slot.{Slot}

-- slot s is the first of `count` slots, at or after slot `from`, that has an entry, and `slot` is its content (manual section 5, directories)
pub record IsNextEntry (entry : ℕ → Option (List ℕ × ℕ)) (from count s : ℕ) (slot : Slot) : Type 0 where
  pub reached : from ≤ s
  pub within : s < count
  pub some : slot.inode ≢ 0
  pub holds : entry s ≡ entry_in slot
  pub none : (t : ℕ) → from ≤ t → t < s → entry t ≡ None

-- the result of a search for the next entry at or after slot `from`: None if none of these slots has an entry (manual section 5, directories)
abbrev pub GoesOn : (ℕ → Option (List ℕ × ℕ)) → ℕ → ℕ → Option (ℕ × Slot) → Type 0
GoesOn entry from count result =
    MatchOption result ((t : ℕ) → from ≤ t → t < count → entry t ≡ None) (λ found. IsNextEntry entry from count found.0 found.1)
