-- The slots of a directory, and the entries in them.
use Rattle.std.specs.Prelude.{◌≡◌, ◌≢◌, ℕ, ◌*◌, ◌/◌, ◌%◌, ◌≤◌, ◌==◌, false, nat_lt, if◌then◌else◌, List, [], map, Option, None, Some}
use Rattle.std.specs.List.{range_with_len, list_any}
use Rattle.vol_layout.specs.Edition.{constants}
use Rattle.vol_layout.specs.Slot.{slot_at, name_of}
use Rattle.vol_layout.specs.Body.{body, body_size}
use Rattle.vol_file.specs.Rules.{size_of, kind_at}
use Rattle.vol_layout.specs.declared.geometry.Geometry.{Geometry}
use Rattle.vol_layout.specs.declared.mode.Kind.TheVariants as kinds
use Rattle.vol_layout.specs.declared.slot.Slot.{Slot}

-- the entry in a slot: a name and its i-number; None if the i-number is 0, since the slot is then empty (manual section 5, directories)
abbrev pub entry_in : Slot → Option (List ℕ × ℕ)
entry_in slot = if slot.inode == 0 then None else Some (name_of slot.name, slot.inode)

-- the number of slots of directory d; an incomplete slot at the end doesn't count (manual section 5, directories)
abbrev pub slot_count : Geometry → List ℕ → ℕ → ℕ
slot_count geometry image d = body_size geometry image d / 16

-- the entry in slot s of directory d; None if the slot is empty or doesn't exist (manual section 5, directories)
unfoldable pub entry_at : Geometry → List ℕ → ℕ → ℕ → Option (List ℕ × ℕ)
entry_at geometry image d s =
    if nat_lt s (slot_count geometry image d) then entry_in (slot_at (body geometry image d) (16 * s)) else None

-- the entries of all slots of directory d, in order (manual section 5, directories)
unfoldable pub slots : Geometry → List ℕ → ℕ → List (Option (List ℕ × ℕ))
slots geometry image d = map (entry_at geometry image d) (range_with_len 0 (slot_count geometry image d))

-- d is the i-number of a directory of the volume (manual section 5, directories)
pub record IsDirectory (geometry : Geometry) (image : List ℕ) (d : ℕ) : Type 0 where
  pub first : 1 ≤ d
  pub last : d ≤ geometry.last_inode
  pub kind : kind_at geometry image d ≡ kinds.Directory

-- slot s of directory d has an entry with this name for i-number i (manual section 5, directories)
pub record HasEntry (geometry : Geometry) (image : List ℕ) (d s : ℕ) (name : List ℕ) (i : ℕ) : Type 0 where
  pub directory : IsDirectory geometry image d
  pub entry : entry_at geometry image d s ≡ Some (name, i)

-- rule 9: each directory consists of whole slots; each entry has a name without a slash, and an allocated i-number from the root's to the last; and
-- no name occurs twice in a directory (manual section 5, directories; the rule is this project's)
pub record HasEntries (geometry : Geometry) (image : List ℕ) : Type 0 where
  pub whole : (d : ℕ) → IsDirectory geometry image d → size_of geometry image d % 16 ≡ 0
  pub named : (d s i : ℕ) (name : List ℕ) → HasEntry geometry image d s name i → (name ≢ []) × (list_any (λ c. c == 47) name ≡ false)
  pub allocated : (d s i : ℕ) (name : List ℕ) → HasEntry geometry image d s name i
      → ((constants geometry.edition).root ≤ i) × (i ≤ geometry.last_inode) × (kind_at geometry image i ≢ kinds.Free)
  pub once : (d s t i j : ℕ) (name : List ℕ) → HasEntry geometry image d s name i → HasEntry geometry image d t name j → s ≡ t

-- i is an i-number from the root's to the last, and i-node i is allocated (manual section 5, file system)
pub record IsInUse (geometry : Geometry) (image : List ℕ) (i : ℕ) : Type 0 where
  pub first : (constants geometry.edition).root ≤ i
  pub last : i ≤ geometry.last_inode
  pub allocated : kind_at geometry image i ≢ kinds.Free
