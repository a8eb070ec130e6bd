-- A picture of the uses of blocks, with letters.
use Rattle.std.specs.Prelude.{ℕ, ◌-◌, ◌*◌, ◌%◌, ◌==◌, Bool, true, false, if◌then◌else◌, List, [], ◌∷◌, ◌++◌, Option, codes, decimal, length, slice_index_or}
use Rattle.std.specs.List.{flat_map, range_with_len, repeat}
use Rattle.vol_inspect.specs.Cells.{cells as cells_of}
use Rattle.vol_inspect.specs.Legend.{label, legend, legend_count, letter}
use Rattle.vol_inspect.specs.declared.cell_groups.Cell.{Cell}
use Rattle.vol_inspect.specs.declared.cell_groups.Cell.TheVariants as cells
use Rattle.vol_inspect.specs.declared.uses.Use.{Use}
use Rattle.vol_inspect.specs.declared.uses.Use.TheVariants as uses

-- the number of the background colour of a use on a terminal (ECMA-48)
abbrev pub colour : Use → ℕ
colour uses.Boot = 100
colour uses.SuperBlock = 100
colour uses.IList = 43
colour uses.Directory = 44
colour uses.File = 42
colour uses.Pointer = 46
colour uses.Free = 47
colour uses.Chain = 45
colour uses.Lost = 103
colour uses.Twice = 41
colour uses.Unreadable = 101
colour uses.Unknown = 105

-- the number of the background colour of a cell; 49 is the terminal's own (ECMA-48)
abbrev pub cell_colour : Cell → ℕ
cell_colour cells.Blank = 49
cell_colour (cells.Of u) = colour u
cell_colour cells.Faulty = 41
cell_colour cells.Unsure = 101

-- the letter of a cell (this project)
abbrev pub cell_letter : Cell → List ℕ
cell_letter cells.Blank = codes "."
cell_letter (cells.Of u) = letter u
cell_letter cells.Faulty = codes "!"
cell_letter cells.Unsure = codes "%"

-- a cell: its letter; in a coloured picture, between the codes that set and reset the colour (ECMA-48)
abbrev pub cell_text : Bool → Cell → List ℕ
cell_text false cell = cell_letter cell
cell_text true cell = (27 ∷ 91 ∷ []) ++ (decimal (cell_colour cell) ++ (codes "m" ++ (cell_letter cell ++ (27 ∷ 91 ∷ 48 ∷ 109 ∷ []))))

-- a number, right-aligned in 7 columns (this project)
abbrev pub number_column : ℕ → List ℕ
number_column n = repeat (7 - length (decimal n)) (32 ∷ []) ++ decimal n

-- the beginning of a row: a newline, and the number of its first block (this project)
abbrev pub row_head : ℕ → List ℕ
row_head first = codes "\n" ++ (number_column first ++ codes " ")

-- cell `k`, after the beginning of a row if it is a row's first one (this project)
abbrev pub row_cell : Bool → ℕ → ℕ → Cell → ℕ → List ℕ
row_cell coloured width each cell k = (if k % width == 0 then row_head (k * each) else []) ++ cell_text coloured cell

-- cells of `each` blocks in rows of this width (this project)
unfoldable pub rows_text : Bool → ℕ → ℕ → List Cell → List ℕ
rows_text coloured width each found =
    flat_map (λ k. row_cell coloured width each (slice_index_or found k cells.Blank) k) (range_with_len 0 (length found))

-- a line of the legend: the number of blocks, the letter, and what it means (this project)
abbrev pub legend_line : Bool → List (Option Use) → List Cell → Cell → List ℕ
legend_line coloured blocks found kind =
    number_column (legend_count blocks found kind) ++ (codes " " ++ (cell_text coloured kind ++ (codes " " ++ (label kind ++ codes "\n"))))

-- lines of the legend (this project)
unfoldable pub legend_lines : Bool → List (Option Use) → List Cell → List Cell → List ℕ
legend_lines coloured blocks found all = flat_map (legend_line coloured blocks found) all

-- the drawing of these cells of some blocks, and its legend (this project)
abbrev pub cells_drawing : Bool → ℕ → ℕ → List (Option Use) → List Cell → List ℕ
cells_drawing coloured width each blocks found =
    rows_text coloured width each found ++ (codes "\n\n" ++ legend_lines coloured blocks found (legend blocks found))

-- the drawing of some blocks, `each` in a cell, and its legend (this project)
abbrev pub drawing : Bool → ℕ → ℕ → List (Option Use) → List ℕ
drawing coloured width each blocks = cells_drawing coloured width each blocks (cells_of each blocks)
