-- The lines that tell what differs between an image and its repaired copy.
use Rattle.std.specs.Prelude.{◌≡◌, ◌≢◌, ℕ, ◌==◌, ◌&&◌, Bool, true, false, List, Option, None}
use Rattle.std.specs.List.{list_any}
use Rattle.vol_layout.specs.Inode.{inode_of}
use Rattle.vol_layout.specs.declared.geometry.Geometry.{Geometry}
use Rattle.vol_layout.specs.declared.mode.Kind.{Kind}
use Rattle.vol_layout.specs.declared.mode.Kind.TheVariants as kinds
use Rattle.vol_file.specs.Rules.{kind_at, size_of}
use Rattle.vol_dir.specs.Entries.{entry_at, entry_in}
use Rattle.vol_repair.specs.declared.repair_line.RepairLine.{RepairLine}
use Rattle.vol_repair.specs.declared.repair_line.RepairLine.TheVariants as lines

-- the i-number that a line is about; 0 for the line about the free list (this project)
abbrev pub subject : RepairLine → ℕ
subject (lines.Cleared i) = i
subject (lines.Made i) = i
subject (lines.Size i old new) = i
subject (lines.Changed i) = i
subject (lines.Links i old new) = i
subject (lines.Entry d s old new) = d
subject lines.FreeList = 0

-- true if a line tells how i-node i or its bytes changed; its link count doesn't count (this project)
abbrev pub is_about : ℕ → RepairLine → Bool
is_about i (lines.Cleared j) = j == i
is_about i (lines.Made j) = j == i
is_about i (lines.Size j old new) = j == i
is_about i (lines.Changed j) = j == i
is_about i (lines.Links j old new) = false
is_about i (lines.Entry d s old new) = d == i
is_about i lines.FreeList = false

-- true if a line tells the link count of i-node i, or that it is new or free (this project)
abbrev pub is_for_links : ℕ → RepairLine → Bool
is_for_links i (lines.Cleared j) = j == i
is_for_links i (lines.Made j) = j == i
is_for_links i (lines.Size j old new) = false
is_for_links i (lines.Changed j) = false
is_for_links i (lines.Links j old new) = j == i
is_for_links i (lines.Entry d s old new) = false
is_for_links i lines.FreeList = false

-- true if a line tells the content of slot s of directory d (this project)
abbrev pub is_for_slot : ℕ → ℕ → RepairLine → Bool
is_for_slot d s (lines.Cleared j) = false
is_for_slot d s (lines.Made j) = false
is_for_slot d s (lines.Size j old new) = false
is_for_slot d s (lines.Changed j) = false
is_for_slot d s (lines.Links j old new) = false
is_for_slot d s (lines.Entry e t old new) = (e == d) && (t == s)
is_for_slot d s lines.FreeList = false

-- true if a line tells that the free list was rebuilt (this project)
abbrev pub is_for_list : RepairLine → Bool
is_for_list (lines.Cleared j) = false
is_for_list (lines.Made j) = false
is_for_list (lines.Size j old new) = false
is_for_list (lines.Changed j) = false
is_for_list (lines.Links j old new) = false
is_for_list (lines.Entry e t old new) = false
is_for_list lines.FreeList = true

-- one of the lines passes the test (this project)
abbrev pub IsTold : (RepairLine → Bool) → List RepairLine → Type 0
IsTold test lines = list_any test lines ≡ true

-- the entry in slot s of i-node d of this kind; None unless it is a directory (manual section 5, directories)
abbrev pub entry_of_kind : Geometry → List ℕ → ℕ → ℕ → Kind → Option (List ℕ × ℕ)
entry_of_kind geometry image d s kinds.Directory = entry_at geometry image d s
entry_of_kind geometry image d s kinds.Free = None
entry_of_kind geometry image d s kinds.Regular = None
entry_of_kind geometry image d s kinds.Special = None
entry_of_kind geometry image d s kinds.Odd = None

-- the entry in slot s of directory d; None if d isn't a directory (manual section 5, directories)
abbrev pub dir_entry : Geometry → List ℕ → ℕ → ℕ → Option (List ℕ × ℕ)
dir_entry geometry image d s = entry_of_kind geometry image d s (kind_at geometry image d)

-- the line is true of the image and its copy (this project)
abbrev pub IsTrueLine : Geometry → List ℕ → List ℕ → RepairLine → Type 0
IsTrueLine geometry old new (lines.Cleared i) = (kind_at geometry old i ≢ kinds.Free) × (kind_at geometry new i ≡ kinds.Free)
IsTrueLine geometry old new (lines.Made i) = (kind_at geometry new i ≢ kind_at geometry old i) × (kind_at geometry new i ≢ kinds.Free)
IsTrueLine geometry old new (lines.Size i was is) = (size_of geometry old i ≡ was) × (size_of geometry new i ≡ is) × (was ≢ is)
IsTrueLine geometry old new (lines.Changed i) = kind_at geometry new i ≡ kind_at geometry old i
IsTrueLine geometry old new (lines.Links i was is) =
    ((inode_of geometry.edition old i).links ≡ was) × ((inode_of geometry.edition new i).links ≡ is) × (was ≢ is)
IsTrueLine geometry old new (lines.Entry d s was is) = (dir_entry geometry old d s ≡ entry_in was) × (dir_entry geometry new d s ≡ entry_in is)
IsTrueLine geometry old new lines.FreeList = Unit {0}
