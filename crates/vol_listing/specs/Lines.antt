-- The lines of a listing.
use Rattle.std.specs.Prelude.{ℕ, if◌then◌else◌, List, [], ◌∷◌, ◌++◌, codes}
use Rattle.std.specs.List.{flat_map}
use Rattle.vol_dir.specs.Tree.{Tree}
use Rattle.escaped_text.specs.Escape.{escaped}
use Rattle.vol_change.specs.Nodes.{node_at}
use Rattle.vol_listing.specs.Depths.{goes_below, opens}
use Rattle.vol_listing.specs.Digits.{padded_number}
use Rattle.vol_listing.specs.LongLines.{long_line}
use Rattle.vol_listing.specs.Places.{names_under}
use Rattle.vol_listing.specs.Rows.{row_of}
use Rattle.vol_listing.specs.declared.lines.Style.{Style}
use Rattle.vol_listing.specs.declared.options.Depth.{Depth}
use Rattle.vol_listing.specs.declared.options.Screen.{Screen}
use Rattle.vol_listing.specs.declared.options.Screen.TheVariants as screens
use Rattle.vol_listing.specs.declared.places.ListedNode.{ListedNode}

-- a name or a path as it is shown: escaped on a terminal, otherwise unchanged (this project)
abbrev pub shown : Screen → List ℕ → List ℕ
shown (screens.Terminal columns colours) name = escaped name
shown screens.Stream name = name

-- the line of a name and its i-number (ls -i)
abbrev pub entry_line : List ℕ × ℕ → List ℕ
entry_line entry = padded_number entry.1 ++ (32 ∷ entry.0) ++ (10 ∷ [])

-- the line of a name and its i-number, long or not (ls -li, ls -i)
abbrev pub line_of : Style → Tree → List ℕ × ℕ → List ℕ
line_of style tree entry =
    if style.is_long
    then long_line (row_of entry.1 (node_at tree entry.1)) (shown style.screen entry.0)
    else entry_line (shown style.screen entry.0, entry.1)

-- the lines of the names of the directory at a path, in ascending order (ls -a)
unfoldable pub names_text : Style → Tree → List ℕ → List ℕ
names_text style tree path = flat_map (line_of style tree) (names_under tree path)

-- a directory under its path (ls -R)
unfoldable pub section_text : Style → Tree → ListedNode → List ℕ
section_text style tree place = shown style.screen place.path ++ (codes ":\n" ++ names_text style tree place.path)

-- a directory under its path, after an empty line (ls -R)
abbrev pub other_text : Style → Tree → ListedNode → List ℕ
other_text style tree place = 10 ∷ section_text style tree place

-- the lines of a directory's names and, if its subdirectories are to be listed too, the lines of their names, each directory under its path and after
-- an empty line; anything else has one line (ls)
abbrev pub lines_text : Style → Tree → Depth → ListedNode → List ListedNode → List ℕ
lines_text style tree depth place places =
    if opens depth (node_at tree place.inode)
    then (if goes_below depth then section_text style tree place ++ flat_map (other_text style tree) places else names_text style tree place.path)
    else line_of style tree (place.path, place.inode)
