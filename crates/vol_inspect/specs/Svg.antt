-- A picture of the uses of blocks as SVG.
use Rattle.std.specs.Prelude.{ℕ, ◌+◌, ◌-◌, ◌*◌, ◌/◌, ◌%◌, ◌==◌, nat_le, if◌then◌else◌, List, [], ◌++◌, Option, codes, decimal, length, max, slice_index_or}
use Rattle.std.specs.List.{flat_map, range_with_len}
use Rattle.vol_inspect.specs.Cells.{cells as cells_of, piece}
use Rattle.vol_inspect.specs.Legend.{label, legend, legend_count, letter}
use Rattle.vol_inspect.specs.declared.cell_groups.Cell.{Cell}
use Rattle.vol_inspect.specs.declared.cell_groups.Cell.TheVariants as cells
use Rattle.vol_inspect.specs.declared.uses.Use.{Use}
use Rattle.vol_inspect.specs.declared.uses.Use.TheVariants as uses
use Rattle.vol_inspect.specs.declared.svg_picture.TheConstants.{STYLE}

-- the number of squares in a row: the least power of two from 4 to 128 with which `n` squares make no more rows than that, or 128 (this project)
abbrev pub columns_for : ℕ → ℕ
columns_for n =
    if nat_le n 16 then 4 else if nat_le n 64 then 8 else if nat_le n 256 then 16 else if nat_le n 1024 then 32 else if nat_le n 4096 then 64 else 128

-- the number of rows of this width that `n` squares fill (this project)
abbrev pub row_count : ℕ → ℕ → ℕ
row_count width n = (n + (width - 1)) / width

-- the class of a cell, by which it has its colour (SVG 1.1)
abbrev pub class : Cell → List ℕ
class cells.Blank = codes "n"
class (cells.Of uses.Unknown) = codes "q"
class (cells.Of u) = letter u
class cells.Faulty = codes "x"
class cells.Unsure = codes "y"

-- the text before the squares: the size of the picture, its title, and the colours (SVG 1.1)
abbrev pub head_text : ℕ → ℕ → ℕ → ℕ → List ℕ
head_text across down count each =
    codes "<svg xmlns='http://www.w3.org/2000/svg' viewBox='0 0 " ++ (decimal across ++ (codes " " ++ (decimal down
    ++ (codes "' role='img'>\n<title>" ++ (decimal count ++ (codes " blocks, " ++ (decimal each ++ codes " in each square</title>\n")))))))
    ++ STYLE.now

-- the beginning of a square of a cell at a position (SVG 1.1)
abbrev pub square_text : Cell → ℕ → ℕ → List ℕ
square_text cell x y = codes "<path class='" ++ (class cell ++ (codes "' d='M" ++ (decimal x ++ (codes " " ++ (decimal y ++ codes "h9v9h-9z'")))))

-- the number of blocks of a kind, on a line of its own (this project)
abbrev pub part_text : List (Option Use) → Cell → List ℕ
part_text blocks kind = codes "\n" ++ (decimal (legend_count blocks [] kind) ++ (codes " " ++ label kind))

-- numbers of blocks of these kinds (this project)
unfoldable pub parts_text : List (Option Use) → List Cell → List ℕ
parts_text blocks kinds = flat_map (part_text blocks) kinds

-- the title of a block, from those of the first blocks; of a block without one, what its square shows (this project)
abbrev pub block_title : List (List ℕ) → ℕ → Cell → List ℕ
block_title titles b cell = slice_index_or titles b (label cell)

-- the blocks of a square from `first` on, and what they are: of one block its title, of several their uses (this project)
abbrev pub title_text : List (List ℕ) → List (Option Use) → ℕ → Cell → List ℕ
title_text titles blocks first cell =
    if length blocks == 1 then codes "block " ++ (decimal first ++ (codes ": " ++ block_title titles first cell))
    else (codes "blocks " ++ (decimal first ++ (codes " to " ++ decimal (first + (length blocks - 1))))) ++ parts_text blocks (legend blocks [])

-- a square with its tool-tip (SVG 1.1)
abbrev pub titled_text : List (List ℕ) → List (Option Use) → ℕ → Cell → ℕ → ℕ → List ℕ
titled_text titles blocks first cell x y =
    square_text cell x y ++ (codes "><title>" ++ (title_text titles blocks first cell ++ codes "</title></path>\n"))

-- the squares of cells of `each` blocks in rows of this width (SVG 1.1)
unfoldable pub squares_text : ℕ → ℕ → List (List ℕ) → List (Option Use) → List Cell → List ℕ
squares_text width each titles blocks found =
    flat_map (λ k. titled_text titles (piece each blocks k) (k * each) (slice_index_or found k cells.Blank) (10 * (k % width)) (10 * (k / width)))
    (range_with_len 0 (length found))

-- what a kind of cell shows, and its number of blocks, beside a square (SVG 1.1)
abbrev pub swatch_text : List (Option Use) → List Cell → Cell → ℕ → List ℕ
swatch_text blocks found kind y =
    codes "<text x='14' y='" ++ (decimal y ++ (codes "'>" ++ (label kind ++ (codes " " ++ (decimal (legend_count blocks found kind) ++ codes "</text>\n")))))

-- a line of the legend at height `y` (SVG 1.1)
abbrev pub entry_text : List (Option Use) → List Cell → Cell → ℕ → List ℕ
entry_text blocks found kind y = square_text kind 0 y ++ (codes "/>\n" ++ swatch_text blocks found kind (y + 9))

-- the legend from height `top` on (SVG 1.1)
unfoldable pub swatches_text : List (Option Use) → List Cell → ℕ → List Cell → List ℕ
swatches_text blocks found top kinds =
    flat_map (λ k. entry_text blocks found (slice_index_or kinds k cells.Blank) (top + 14 * k)) (range_with_len 0 (length kinds))

-- the picture of these cells of some blocks, with this legend from height `top` on (SVG 1.1)
abbrev pub laid_out : ℕ → ℕ → List (List ℕ) → List (Option Use) → List Cell → List Cell → ℕ → List ℕ
laid_out width each titles blocks found kinds top =
    head_text (max (10 * width) 320) (top + 14 * length kinds) (length blocks) each ++ (squares_text width each titles blocks found
    ++ (swatches_text blocks found top kinds ++ codes "</svg>\n"))

-- the picture of these cells of some blocks (SVG 1.1)
abbrev pub cells_picture : ℕ → ℕ → List (List ℕ) → List (Option Use) → List Cell → List ℕ
cells_picture width each titles blocks found = laid_out width each titles blocks found (legend blocks found) (10 * row_count width (length found) + 10)

-- the picture of some blocks, `each` in a square, with the titles of the first blocks (SVG 1.1)
abbrev pub picture : ℕ → List (List ℕ) → List (Option Use) → List ℕ
picture each titles blocks = cells_picture (columns_for (length (cells_of each blocks))) each titles blocks (cells_of each blocks)
