-- The legend of a picture: what its cells show, with numbers of blocks.
use Rattle.std.specs.Prelude.{ℕ, nat_lt, Bool, true, false, List, [], ◌∷◌, Option, None, Some, codes, filter}
use Rattle.std.specs.List.{count_by}
use Rattle.vol_inspect.specs.Cells.{is_faulty, is_unsure, use_count}
use Rattle.vol_inspect.specs.declared.cell_groups.Cell.{Cell}
use Rattle.vol_inspect.specs.declared.cell_groups.Cell.TheVariants as cells
use Rattle.vol_inspect.specs.declared.uses.Use.{Use}
use Rattle.vol_inspect.specs.declared.uses.Use.TheVariants as uses

-- the letter of a use (this project)
abbrev pub letter : Use → List ℕ
letter uses.Boot = codes "B"
letter uses.SuperBlock = codes "S"
letter uses.IList = codes "i"
letter uses.Directory = codes "d"
letter uses.File = codes "f"
letter uses.Pointer = codes "p"
letter uses.Free = codes "o"
letter uses.Chain = codes "c"
letter uses.Lost = codes "L"
letter uses.Twice = codes "T"
letter uses.Unreadable = codes "U"
letter uses.Unknown = codes "?"

-- the name of a use (this project)
abbrev pub name : Use → List ℕ
name uses.Boot = codes "boot"
name uses.SuperBlock = codes "super-block"
name uses.IList = codes "i-list"
name uses.Directory = codes "directory"
name uses.File = codes "file"
name uses.Pointer = codes "pointer"
name uses.Free = codes "free"
name uses.Chain = codes "chain"
name uses.Lost = codes "lost"
name uses.Twice = codes "named twice"
name uses.Unreadable = codes "unreadable"
name uses.Unknown = codes "unknown"

-- what a cell shows, in words (this project)
abbrev pub label : Cell → List ℕ
label cells.Blank = codes "other blocks"
label (cells.Of u) = name u
label cells.Faulty = codes "cells with some blocks that are lost or named twice"
label cells.Unsure = codes "cells with some blocks that are unreadable or of unknown use"

-- true if a block isn't shown (this project)
abbrev pub is_blank : Option Use → Bool
is_blank None = true
is_blank (Some u) = false

-- the number in the legend for a kind of cell: how many blocks have the use, or aren't shown; but how many cells have a fault or a gap that they don't
-- show (this project)
abbrev pub legend_count : List (Option Use) → List Cell → Cell → ℕ
legend_count blocks found cells.Blank = count_by is_blank blocks
legend_count blocks found (cells.Of u) = use_count u blocks
legend_count blocks found cells.Faulty = count_by is_faulty found
legend_count blocks found cells.Unsure = count_by is_unsure found

-- all kinds of cells, in the order of the legend (this project)
abbrev pub kinds : List Cell
kinds =
    cells.Of uses.Boot ∷ cells.Of uses.SuperBlock ∷ cells.Of uses.IList ∷ cells.Of uses.Directory ∷ cells.Of uses.File ∷ cells.Of uses.Pointer
    ∷ cells.Of uses.Free ∷ cells.Of uses.Chain ∷ cells.Of uses.Lost ∷ cells.Of uses.Twice ∷ cells.Of uses.Unreadable ∷ cells.Of uses.Unknown
    ∷ cells.Faulty ∷ cells.Unsure ∷ cells.Blank ∷ []

-- true if the legend has a kind of cell (this project)
abbrev pub is_there : List (Option Use) → List Cell → Cell → Bool
is_there blocks found kind = nat_lt 0 (legend_count blocks found kind)

-- the kinds of cells in a legend: those that aren't counted as none (this project)
unfoldable pub legend : List (Option Use) → List Cell → List Cell
legend blocks found = filter (is_there blocks found) kinds
