-- Searching the slots of a directory.
use Rattle.std.specs.Prelude.{◌≡◌, ℕ, ◌<◌, ◌≤◌, ◌||◌, Bool, true, false, not, if◌then◌else◌, List, Option, None, Some, MatchOption}
use Rattle.std.specs.List.{position_or_len}
use Rattle.std.specs.Option.{is_none, is_some, option_map, option_map_or}
use Rattle.std.specs.Str.{bytes_eq}
use Rattle.vol_layout.specs.declared.slot.Slot.{Slot}
use Rattle.vol_dir.specs.Entries.{entry_in}
use Rattle.vol_dir.specs.Names.{is_dots}
use Rattle.vol_dir.specs.declared.entries.Entry.{Entry}
use Rattle.vol_dir.specs.declared.entries.Sought.{Sought}
use Rattle.vol_dir.specs.declared.entries.Sought.TheVariants.{Named, Empty, NamedOrEmpty, Any, Other}

-- true if a slot has an entry with this name (manual section 5, directories)
abbrev pub holds : List ℕ → Option (List ℕ × ℕ) → Bool
holds name None = false
holds name (Some entry) = bytes_eq name entry.0

-- true if a slot has an entry other than `.` and `..` (manual section 5, directories)
abbrev pub holds_other : Option (List ℕ × ℕ) → Bool
holds_other None = false
holds_other (Some entry) = not (is_dots entry.0)

-- true if a slot is the target of a search (Lions on namei)
abbrev pub is_sought : Sought → Option (List ℕ × ℕ) → Bool
is_sought (Named name) entry = holds name.now entry
is_sought Empty entry = is_none entry
is_sought (NamedOrEmpty name) entry = is_none entry || holds name.now entry
is_sought Any entry = is_some entry
is_sought Other entry = holds_other entry

-- none of the slots `from..n` is a target of the search (Lions on namei)
abbrev pub IsMissing : Sought → (ℕ → Option (List ℕ × ℕ)) → ℕ → ℕ → Type 0
IsMissing sought entry from n = (t : ℕ) → from ≤ t → t < n → is_sought sought (entry t) ≡ false

-- slot s is the first of n slots, at or after slot `from`, that is a target of the search, and `slot` is its content (Lions on namei)
pub record IsFirst (sought : Sought) (entry : ℕ → Option (List ℕ × ℕ)) (from n s : ℕ) (slot : Slot) : Type 0 where
  pub reached : from ≤ s
  pub within : s < n
  pub found : is_sought sought (entry s) ≡ true
  pub read : entry s ≡ entry_in slot
  pub before : IsMissing sought entry from s

-- the result of a search of n slots, at or after slot `from`: the first slot that is a target, or None if there is none (Lions on namei)
abbrev pub Searches : Sought → (ℕ → Option (List ℕ × ℕ)) → ℕ → ℕ → Option (ℕ × Slot) → Type 0
Searches sought entry from n result = MatchOption result (IsMissing sought entry from n) (λ first. IsFirst sought entry from n first.0 first.1)

-- none of the slots `from..n` has an entry with this name (Lions on namei)
abbrev pub IsUnnamed : List ℕ → (ℕ → Option (List ℕ × ℕ)) → ℕ → ℕ → Type 0
IsUnnamed name entry from n = (t : ℕ) → from ≤ t → t < n → holds name (entry t) ≡ false

-- slot s is the first of n slots, at or after slot `from`, that has an entry with this name, and its i-number is i (Lions on namei)
pub record IsFirstNamed (name : List ℕ) (entry : ℕ → Option (List ℕ × ℕ)) (from n s i : ℕ) : Type 0 where
  pub reached : from ≤ s
  pub within : s < n
  pub found : holds name (entry s) ≡ true
  pub number : option_map (λ (e : List ℕ × ℕ). e.1) (entry s) ≡ Some i
  pub before : IsUnnamed name entry from s

-- the result of a search for a name in n slots, at or after slot `from`: the first entry with this name, or None if there is none (Lions on namei)
abbrev pub Finds : List ℕ → (ℕ → Option (List ℕ × ℕ)) → ℕ → ℕ → Option Entry → Type 0
Finds name entry from n result = MatchOption result (IsUnnamed name entry from n) (λ e. IsFirstNamed name entry from n e.slot e.inode)

-- the slot for a new entry: the first empty slot, or else the one after the last (Lions on wdir)
abbrev pub new_slot : List (Option (List ℕ)) → ℕ
new_slot slots = position_or_len (λ slot. is_none slot) slots

-- the first slot with this name, or the number of slots if there is none (Lions on namei)
abbrev pub slot_named : List ℕ → List (Option (List ℕ × ℕ)) → ℕ
slot_named name slots = position_or_len (holds name) slots

-- a slot after a name is removed: empty if it had this name, else unchanged (manual section 5, directories)
abbrev pub emptied : List ℕ → Option (List ℕ) → Option (List ℕ)
emptied name slot = if option_map_or (bytes_eq name) slot false then None else slot
