-- Blocks of directories that need not be read again.
use Rattle.std.specs.Prelude.{◌≡◌, ℕ, ◌+◌, ◌*◌, ◌<◌, ◌≤◌, Bool, true, nat_lt, if◌then◌else◌, List, Option, None}
use Rattle.std.specs.Option.{is_none}
use Rattle.vol_layout.specs.Geometry.{in_zone}
use Rattle.vol_layout.specs.Slot.{slot_at}
use Rattle.vol_layout.specs.declared.geometry.Geometry.{Geometry}
use Rattle.vol_layout.specs.declared.slot.Slot.{Slot}
use Rattle.vol_file.specs.Repeats.{MarksPassed}
use Rattle.vol_dir.specs.Entries.{entry_in, entry_at, slot_count}

-- the entry in slot s of block m; None if m isn't a data block (manual section 5, directories)
abbrev pub entry_in_block : Geometry → List ℕ → ℕ → ℕ → Option (List ℕ × ℕ)
entry_in_block geometry image m s = if in_zone geometry m then entry_in (slot_at image (512 * m + 16 * s)) else None

-- true if slot s of block m passes a test; also true if s is not below 32 (this project)
abbrev pub passes_in : (Option (List ℕ × ℕ) → Bool) → Geometry → List ℕ → ℕ → ℕ → Bool
passes_in test geometry image m s = if nat_lt s 32 then test (entry_in_block geometry image m s) else true

-- all slots below marked blocks pass a test (this project)
abbrev pub MarksSlots : (Option (List ℕ × ℕ) → Bool) → Geometry → List ℕ → List Bool → Type 0
MarksSlots test geometry image marks = MarksPassed (passes_in test geometry image) geometry image marks

-- the slots `from..to` of directory d pass a test (this project)
abbrev pub PassSlots : (Option (List ℕ × ℕ) → Bool) → Geometry → List ℕ → ℕ → ℕ → ℕ → Type 0
PassSlots test geometry image d from to = (t : ℕ) → from ≤ t → t < to → t < slot_count geometry image d → test (entry_at geometry image d t) ≡ true

-- slot s of directory d, at or after slot `from`, has an entry, and `slot` is its content (this project)
pub record IsEntryFrom (geometry : Geometry) (image : List ℕ) (d from s : ℕ) (slot : Slot) : Type 0 where
  pub reached : from ≤ s
  pub within : s < slot_count geometry image d
  pub some : slot.inode ≡ 0 → ⊥
  pub holds : entry_at geometry image d s ≡ entry_in slot

-- no slot below a marked block has an entry (this project)
abbrev pub MarksEmpty : Geometry → List ℕ → List Bool → Type 0
MarksEmpty geometry image marks = MarksSlots (λ entry. is_none entry) geometry image marks
