-- The text of the lines about a repair.
use Rattle.std.specs.Prelude.{ℕ, ◌==◌, ◌++◌, List, [], codes, decimal, if◌then◌else◌}
use Rattle.std.specs.List.{flat_map}
use Rattle.escaped_text.specs.Escape.{escaped}
use Rattle.vol_layout.specs.Slot.{name_of}
use Rattle.vol_layout.specs.declared.slot.Slot.{Slot}
use Rattle.vol_repair.specs.declared.repair_line.RepairLine.{RepairLine}
use Rattle.vol_repair.specs.declared.repair_line.RepairLine.TheVariants as lines

-- the content of a slot: its i-number and its name, or that it is empty (this project)
abbrev pub slot_text : Slot → List ℕ
slot_text slot = if slot.inode == 0 then codes "empty" else (decimal slot.inode ++ codes " ") ++ escaped (name_of slot.name)

-- the subject of a line, and what differs in numbers and words (this project)
abbrev pub subject_text : RepairLine → List ℕ
subject_text (lines.Cleared i) = codes "i-node " ++ (decimal i ++ codes ": cleared")
subject_text (lines.Made i) = codes "i-node " ++ (decimal i ++ codes ": made")
subject_text (lines.Size i old new) = codes "i-node " ++ (decimal i ++ (codes ": size " ++ (decimal old ++ (codes " -> " ++ decimal new))))
subject_text (lines.Changed i) = codes "i-node " ++ (decimal i ++ codes ": contents or fields changed")
subject_text (lines.Links i old new) = codes "i-node " ++ (decimal i ++ (codes ": links " ++ (decimal old ++ (codes " -> " ++ decimal new))))
subject_text (lines.Entry d s old new) = codes "directory " ++ (decimal d ++ (codes ", slot " ++ (decimal s ++ codes ": ")))
subject_text lines.FreeList = codes "free list: rebuilt"

-- both contents of a slot, in a line about one (this project)
abbrev pub contents_text : RepairLine → List ℕ
contents_text (lines.Entry d s old new) = slot_text old ++ codes " -> " ++ slot_text new
contents_text _ = []

-- a line about a repair, with its newline (this project)
abbrev pub line_text : RepairLine → List ℕ
line_text line = subject_text line ++ contents_text line ++ codes "\n"

-- the lines about a repair (this project)
abbrev pub lines_text : List RepairLine → List ℕ
lines_text lines = flat_map line_text lines
