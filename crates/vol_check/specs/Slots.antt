-- The marks of the slots of directories, and the entries that are kept.
use Rattle.std.specs.Prelude.{ℕ, ◌+◌, ◌*◌, nat_le, if◌then◌else◌, List, Option, None, Some}
use Rattle.vol_layout.specs.declared.geometry.Geometry.{Geometry}
use Rattle.vol_layout.specs.declared.mode.Kind.TheVariants as kinds
use Rattle.vol_layout.specs.declared.mode.Kind.{Kind}
use Rattle.vol_file.specs.Rules.{kind_at}
use Rattle.vol_dir.specs.Entries.{entry_in, entry_at}
use Rattle.vol_layout.specs.Slot.{slot_at}
use Rattle.vol_dir.specs.Names.{is_dots}
use Rattle.vol_judge.specs.Steps.{rank}
use Rattle.count_table.specs.declared.rule.Mark.{Mark}
use Rattle.count_table.specs.Sums.{total, below}
use Rattle.count_table.specs.Views.{mark}
use Rattle.vol_reports.specs.Words.{entry_word, name_word}
use Rattle.vol_reports.specs.Placed.{Placed}
use Rattle.vol_reports.specs.Ncheck.{entered}
use Rattle.vol_check.specs.declared.checker.Checker.{Checker}
use Rattle.vol_check.specs.declared.checker.Checker.TheVariants.{Blocks, Entries, Names}
use Rattle.vol_check.specs.Parts.{part_count, piece_value}

-- a weight of a slot, computed from its directory, its number, and its entry (manual section 5, directories)
abbrev pub SlotWeight : Type 0
SlotWeight = ℕ → ℕ → Option (List ℕ × ℕ) → ℕ

-- a weight of a slot, computed from its entry alone (manual section 5, directories)
abbrev pub EntryWeight : Type 0
EntryWeight = Option (List ℕ × ℕ) → ℕ

-- an entry marks the word of its i-number, unless that is past the last (dcheck)
abbrev pub entry_weight : Geometry → (Mark → ℕ) → EntryWeight
entry_weight g weight None = 0
entry_weight g weight (Some entry) = if nat_le entry.1 g.last_inode then weight (mark (entry_word entry.1) 1) else 0

-- the sum of a weight over the 32 slots of data block `k` (manual section 5, directories)
abbrev pub block_sum : List ℕ → EntryWeight → ℕ → ℕ
block_sum image weight k = below (λ t. weight (entry_in (slot_at image (512 * k + 16 * t)))) 32

-- an entry whose name is neither `.` nor `..` marks its rank on the word of its i-number, unless that is past the last (ncheck)
abbrev pub name_weight : Geometry → (Mark → ℕ) → SlotWeight
name_weight g weight d s None = 0
name_weight g weight d s (Some entry) =
    if is_dots entry.0 then 0
    else if nat_le entry.1 g.last_inode then weight (mark (name_word entry.1) (rank d s)) else 0

-- the marks of a slot for a checker (dcheck, ncheck)
abbrev pub slot_weight : Checker → Geometry → (Mark → ℕ) → SlotWeight
slot_weight Blocks g weight d s slot = 0
slot_weight Entries g weight d s slot = entry_weight g weight slot
slot_weight Names g weight d s slot = name_weight g weight d s slot

-- the entry of a slot that a checker keeps: only the name checker keeps it (ncheck)
abbrev pub slot_kept : Checker → (Placed → ℕ) → SlotWeight
slot_kept Blocks weight d s slot = 0
slot_kept Entries weight d s slot = 0
slot_kept Names weight d s slot = total weight (entered d s slot)

-- the given number for a directory, and 0 for i-numbers of other kinds (manual section 5, file system)
abbrev pub in_directory : Kind → ℕ → ℕ
in_directory kinds.Directory n = n
in_directory kinds.Free n = 0
in_directory kinds.Regular n = 0
in_directory kinds.Special n = 0
in_directory kinds.Odd n = 0

-- the sum over the slots of part `k` of i-number `d`; each part has 64 logical blocks (this project)
unfoldable pub part_sum : Geometry → List ℕ → SlotWeight → ℕ → ℕ → ℕ
part_sum g image weight d k =
    in_directory (kind_at g image d) (below (λ t. weight d (2048 * k + t) (entry_at g image d (2048 * k + t))) 2048)

-- the sum over the slots of piece `p` (this project)
unfoldable pub slots_piece : Geometry → List ℕ → SlotWeight → ℕ → ℕ
slots_piece g image weight p = piece_value (part_count g image) (part_sum g image weight) 1 g.last_inode p
