-- The i-nodes without a directory entry.
use Rattle.std.specs.Prelude.{◌≡◌, ◌⊎◌, ℕ, ◌+◌, ◌≤◌, ◌&&◌, ◌||◌, Bool, true, false, not, nat_le, nat_lt, List, Option, None, Some, filter, length, slice_index_or}
use Rattle.std.specs.List.{range_with_len}
use Rattle.vol_layout.specs.declared.geometry.Geometry.{Geometry}
use Rattle.vol_layout.specs.declared.mode.Kind.{Kind}
use Rattle.vol_layout.specs.declared.mode.Kind.TheVariants as kinds
use Rattle.vol_file.specs.Rules.{kind_at}
use Rattle.vol_judge.specs.Directories.{root_of, Enters}
use Rattle.vol_dir.specs.Entries.{slot_count}
use Rattle.vol_dir.specs.Names.{is_dots}
use Rattle.vol_dir.specs.Repeats.{PassSlots}

-- true if an i-node of this kind has something to recover: it is allocated, and its mode is one of the edition's (this project)
abbrev pub has_content : Kind → Bool
has_content kinds.Regular = true
has_content kinds.Directory = true
has_content kinds.Special = true
has_content kinds.Free = false
has_content kinds.Odd = false

-- `i` is an i-number of the volume (manual section 5, file system)
pub record IsInList (geometry : Geometry) (i : ℕ) : Type 0 where
  pub first : 1 ≤ i
  pub last : i ≤ geometry.last_inode

-- the mark of each i-number is true if an entry other than `.` and `..` is for it (ncheck)
pub record KnowsNamed (geometry : Geometry) (image : List ℕ) (named : List Bool) : Type 0 where
  pub room : length named ≡ geometry.last_inode + 1
  pub all : (d s i : ℕ) → i ≤ geometry.last_inode → Enters geometry image d s i → slice_index_or named i false ≡ true
  pub only : (i : ℕ) → slice_index_or named i false ≡ true → (d : ℕ) × (s : ℕ) × Enters geometry image d s i

-- true if a slot is empty, its entry is `.` or `..`, its i-number is past the last, or that number has its mark (ncheck)
abbrev pub is_noted : List Bool → Option (List ℕ × ℕ) → Bool
is_noted named None = true
is_noted named (Some entry) = is_dots entry.0 || (nat_le (length named) entry.1 || slice_index_or named entry.1 false)

-- the i-numbers that directory d has entries for were marked, and no others; `.` and `..` count as none (ncheck)
pub record NotesDirectory (geometry : Geometry) (image : List ℕ) (d : ℕ) (old new : List Bool) : Type 0 where
  pub room : length new ≡ length old
  pub kept : (i : ℕ) → slice_index_or old i false ≡ true → slice_index_or new i false ≡ true
  pub all : PassSlots (is_noted new) geometry image d 0 (slot_count geometry image d)
  pub only : (i : ℕ) → slice_index_or new i false ≡ true → (slice_index_or old i false ≡ true) ⊎ ((s : ℕ) × Enters geometry image d s i)

-- true if i-node `i` is lost, given a mark for each i-number that has an entry: it is above the root, has something to recover, and has no entry
-- (ncheck; this project)
abbrev pub is_lost : Geometry → List ℕ → List Bool → ℕ → Bool
is_lost geometry image named i = nat_lt (root_of geometry) i && (has_content (kind_at geometry image i) && not (slice_index_or named i false))

-- these are the lost i-nodes, in ascending order (ncheck; this project)
abbrev pub AreLost : Geometry → List ℕ → List ℕ → Type 0
AreLost geometry image lost =
    (named : List Bool) × KnowsNamed geometry image named × (lost ≡ filter (is_lost geometry image named) (range_with_len 0 (geometry.last_inode + 1)))
