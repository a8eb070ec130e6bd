-- The cells of a picture of the blocks, each for one block or several.
use Rattle.std.specs.Prelude.{ℕ, ◌+◌, ◌-◌, ◌*◌, ◌/◌, ◌==◌, nat_lt, Bool, true, false, not, ◌&&◌, ◌||◌, if◌then◌else◌, List, [], ◌∷◌, Option, None, Some, drop, length, map, take}
use Rattle.std.specs.List.{count_by, range_with_len}
use Rattle.vol_inspect.specs.declared.cell_groups.Cell.{Cell}
use Rattle.vol_inspect.specs.declared.cell_groups.Cell.TheVariants as shows
use Rattle.vol_inspect.specs.declared.uses.Use.{Use}
use Rattle.vol_inspect.specs.declared.uses.Use.TheVariants as uses

-- the priority of a use if several uses have the most blocks of a cell (this project)
abbrev pub telling : Use → ℕ
telling uses.Free = 0
telling uses.Chain = 1
telling uses.File = 2
telling uses.Pointer = 3
telling uses.Directory = 4
telling uses.IList = 5
telling uses.Boot = 6
telling uses.SuperBlock = 7
telling uses.Lost = 8
telling uses.Twice = 9
telling uses.Unknown = 10
telling uses.Unreadable = 11

-- true if a block is shown, and has this use (this project)
abbrev pub has_use : Use → Option Use → Bool
has_use u None = false
has_use u (Some v) = telling v == telling u

-- the number of blocks that are shown with this use (this project)
abbrev pub use_count : Use → List (Option Use) → ℕ
use_count u blocks = count_by (has_use u) blocks

-- of two uses the one of more blocks; if both have as many, the second (this project)
abbrev pub more_common : List (Option Use) → Use → Use → Use
more_common blocks a b = if nat_lt (use_count b blocks) (use_count a blocks) then a else b

-- all uses but that of free blocks, the one with the highest priority last (this project)
abbrev pub rivals : List Use
rivals =
    uses.Chain ∷ uses.File ∷ uses.Pointer ∷ uses.Directory ∷ uses.IList ∷ uses.Boot ∷ uses.SuperBlock ∷ uses.Lost ∷ uses.Twice ∷ uses.Unknown
    ∷ uses.Unreadable ∷ []

-- the use of most blocks among a first one and further ones; if several have as many, the last (this project)
unfoldable pub most_of : List (Option Use) → Use → List Use → Use
most_of blocks best [] = best
most_of blocks best (u ∷ us) = most_of blocks (more_common blocks best u) us

-- the use of most blocks; if several have as many, the one with the highest priority (this project)
abbrev pub most_common : List (Option Use) → Use
most_common blocks = most_of blocks uses.Free rivals

-- true if some blocks have a use, and another one is that of most (this project)
abbrev pub is_hidden : List (Option Use) → Use → Use → Bool
is_hidden blocks best u = not (telling u == telling best) && nat_lt 0 (use_count u blocks)

-- true if the use of most blocks hides a fault: some of them are lost or named twice (this project)
abbrev pub hides_fault : List (Option Use) → Use → Bool
hides_fault blocks best = is_hidden blocks best uses.Lost || is_hidden blocks best uses.Twice

-- true if the use of most blocks hides a gap: some of them are unreadable, or their use isn't known (this project)
abbrev pub hides_gap : List (Option Use) → Use → Bool
hides_gap blocks best = is_hidden blocks best uses.Unknown || is_hidden blocks best uses.Unreadable

-- true if some blocks are lost or named twice (this project)
abbrev pub has_fault : List (Option Use) → Bool
has_fault blocks = nat_lt 0 (use_count uses.Lost blocks) || nat_lt 0 (use_count uses.Twice blocks)

-- the cell of some blocks, of which most have this use (this project)
abbrev pub cell_with : List (Option Use) → Use → Cell
cell_with blocks best =
    if use_count best blocks == 0 then shows.Blank
    else if hides_fault blocks best then shows.Faulty
    else if hides_gap blocks best then (if has_fault blocks then shows.Faulty else shows.Unsure)
    else shows.Of best

-- the cell of some blocks: the use of most of them, unless that hides a fault or a gap (this project)
unfoldable pub cell_of : List (Option Use) → Cell
cell_of blocks = cell_with blocks (most_common blocks)

-- the blocks of cell `k`, if each cell is for `each` blocks (this project)
abbrev pub piece : ℕ → List (Option Use) → ℕ → List (Option Use)
piece each blocks k = take each (drop (k * each) blocks)

-- the number of cells for `n` blocks (this project)
abbrev pub cell_count : ℕ → ℕ → ℕ
cell_count each n = (n + (each - 1)) / each

-- the cells of `each` blocks; the last one is for the blocks that are left (this project)
abbrev pub cells : ℕ → List (Option Use) → List Cell
cells each blocks = map (λ k. cell_of (piece each blocks k)) (range_with_len 0 (cell_count each (length blocks)))

-- true if a cell is marked as faulty (this project)
abbrev pub is_faulty : Cell → Bool
is_faulty shows.Blank = false
is_faulty (shows.Of u) = false
is_faulty shows.Faulty = true
is_faulty shows.Unsure = false

-- true if a cell is marked as unsure (this project)
abbrev pub is_unsure : Cell → Bool
is_unsure shows.Blank = false
is_unsure (shows.Of u) = false
is_unsure shows.Faulty = false
is_unsure shows.Unsure = true
