-- Manifests of images of which blocks are lost: a node of which bytes are lost has no sum.
use Rattle.std.specs.Prelude.{◌≡◌, ℕ, ◌&&◌, not, Bool, true, false, if◌then◌else◌, List, [], ◌∷◌, ◌++◌, Option, None, Some}
use Rattle.std.specs.List.{flat_map}
use Rattle.serde_json.specs.Data.{Data}
use Rattle.vol_archive.specs.declared.met_entries.MetEntry.{MetEntry}
use Rattle.vol_change.specs.Nodes.{node_at}
use Rattle.vol_dir.specs.Tree.{is_number, tree}
use Rattle.vol_layout.specs.Geometry.{Fits}
use Rattle.vol_layout.specs.declared.geometry.Geometry.{Geometry}
use Rattle.vol_losses.specs.Losses.{AgreesOutside, is_lost, is_whole, node_block}
use Rattle.vol_losses.specs.Spans.{AreLostSpans}
use Rattle.vol_losses.specs.declared.spans.LostSpan.{LostSpan}
use Rattle.vol_listing.specs.Json.{entries_text}
use Rattle.vol_listing.specs.Places.{joined}
use Rattle.vol_listing.specs.Rows.{row_of}
use Rattle.vol_listing.specs.Sums.{is_left, sum_at, sum_line, summed_data, sums_json}

-- true if i-node i isn't whole: its block is lost, or bytes of its file or directory are (this project)
abbrev pub is_damaged : Geometry → List ℕ → List Bool → ℕ → Bool
is_damaged g image [] i = false
is_damaged g image (mark ∷ lost) i = is_number g i && not (is_whole g image (mark ∷ lost) i)

-- the sum of node i, if it is whole (FIPS 180-4)
abbrev pub known_sum : Geometry → List ℕ → List Bool → ℕ → Option (List ℕ)
known_sum g image lost i = if is_damaged g image lost i then None else sum_at (tree g image) i

-- the line of an entry that the walk found, unless it is left out (this project)
abbrev pub known_line : Geometry → List ℕ → List Bool → MetEntry → List ℕ
known_line g image lost found =
    if is_left found.role then []
    else sum_line (known_sum g image lost found.inode) (row_of found.inode (node_at (tree g image) found.inode)) found.path

-- the lines of the entries that the walk found; with no lost blocks those of `sums_text` (this project)
abbrev pub known_text : Geometry → List ℕ → List Bool → List MetEntry → List ℕ
known_text g image lost founds = flat_map (known_line g image lost) founds

-- the lost bytes of i-node i, if it isn't whole (this project)
abbrev pub AreSpansIf : Bool → Geometry → List ℕ → List Bool → ℕ → Option (List LostSpan) → Type 0
AreSpansIf damaged g image lost i None = damaged ≡ false
AreSpansIf damaged g image lost i (Some spans) = (damaged ≡ true) × AreLostSpans g image lost i spans

-- the object of an entry that the walk found below the directory at path `top`, with its lost bytes, unless it is left out (this project)
abbrev pub known_data : Geometry → List ℕ → List Bool → List ℕ → MetEntry → Option (List LostSpan) → List Data
known_data g image lost top found losses =
    if is_left found.role then []
    else summed_data (known_sum g image lost found.inode) losses (row_of found.inode (node_at (tree g image) found.inode)) (joined top found.path) ∷ []

-- the objects are that of an entry, unless it is left out (this project)
abbrev pub IsKnownData : Geometry → List ℕ → List Bool → List ℕ → MetEntry → List Data → Type 0
IsKnownData g image lost top found datas =
    (losses : Option (List LostSpan)) × AreSpansIf (is_damaged g image lost found.inode) g image lost found.inode losses
    × (datas ≡ known_data g image lost top found losses)

-- the objects are those of the entries, in their order (this project)
pub data AreKnownData (g : Geometry) (image : List ℕ) (lost : List Bool) (top : List ℕ) : List MetEntry → List Data → Type 0 where
  none : AreKnownData g image lost top [] []
  more : (founds : List MetEntry) (datas : List Data) (found : MetEntry) (more : List Data) → AreKnownData g image lost top founds datas
      → IsKnownData g image lost top found more → AreKnownData g image lost top (founds ++ found ∷ []) (datas ++ more)

-- a text is the object of the entries that the walk found below the directory at path `top`, on one line; with no lost blocks that of `sums_json` (this
-- project)
abbrev pub IsKnownJson : Geometry → List ℕ → List Bool → List ℕ → List MetEntry → List ℕ → Type 0
IsKnownJson g image [] top founds text = text ≡ sums_json (tree g image) top founds
IsKnownJson g image (mark ∷ lost) top founds text =
    (datas : List Data) × AreKnownData g image (mark ∷ lost) top founds datas × (text ≡ entries_text datas)

-- each sum is that of the file's bytes in every image that agrees outside the lost blocks (this project's law)
abbrev pub KnownSumsAreRight : Type 0
KnownSumsAreRight = (g : Geometry) (lost : List Bool) (old new : List ℕ) (i : ℕ) (sum : List ℕ) → Fits g old → AgreesOutside g lost old new
    → known_sum g old lost i ≡ Some sum → sum_at (tree g new) i ≡ Some sum

-- the attributes of an i-node whose block isn't lost are the same in every image that agrees outside the lost blocks, also if bytes of its file are lost
-- (this project's law)
abbrev pub RowsAreRight : Type 0
RowsAreRight = (g : Geometry) (lost : List Bool) (old new : List ℕ) (i : ℕ) → Fits g old → AgreesOutside g lost old new
    → is_lost lost (node_block g.edition i) ≡ false
    → row_of i (node_at (tree g new) i) ≡ row_of i (node_at (tree g old) i)
