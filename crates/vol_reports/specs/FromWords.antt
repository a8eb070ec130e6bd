-- The lines of a report, computed from a table of counts.
use Rattle.std.specs.Prelude.{◌≡◌, ℕ, ◌-◌, ◌==◌, Bool, false, not, List, [], ◌∷◌, ◌++◌, slice_index, slice_index_or}
use Rattle.std.specs.List.{flat_map, range_with_len}
use Rattle.vol_layout.specs.declared.geometry.Geometry.{Geometry}
use Rattle.vol_reports.specs.Words.{zone_len, place_word, free_word, bad_word, kind_word, least_word, entry_word}
use Rattle.vol_reports.specs.Icheck.{bad_line_of, dup_line_of, lost_line_of, is_lost_of, zone_count}
use Rattle.vol_reports.specs.Dcheck.{links_line_of}
use Rattle.vol_reports.specs.declared.inode_link_counts.LinkCount.{LinkCount}
use Rattle.vol_reports.specs.declared.line.Line.{Line}
use Rattle.vol_reports.specs.declared.line.Line.TheVariants as lines
use Rattle.vol_reports.specs.declared.line.Total.{Total}
use Rattle.vol_reports.specs.declared.line.Total.TheVariants as totals

-- the number of block-map positions that point to block `b`, according to the words (this project)
abbrev pub places_in : Geometry → List ℕ → ℕ → ℕ
places_in g words b = slice_index words (place_word g b)

-- true if the free list has block `b`, according to the words (this project)
abbrev pub is_met_in : Geometry → List ℕ → ℕ → Bool
is_met_in g words b = not (slice_index words (free_word g b) == 0)

-- true if a block-map position points to block `b`, according to the words (this project)
abbrev pub is_used_in : Geometry → List ℕ → ℕ → Bool
is_used_in g words b = not (places_in g words b == 0)

-- true if block `b` is neither used nor free, according to the words (this project)
abbrev pub is_lost_in : Geometry → List ℕ → ℕ → Bool
is_lost_in g words b = is_lost_of (places_in g words b) (is_met_in g words b)

-- the line of an i-node's bad block addresses, computed from the words (icheck)
abbrev pub bad_line_in : Geometry → List ℕ → ℕ → List Line
bad_line_in g words i = bad_line_of i (slice_index words (bad_word g i)) (slice_index words (least_word g i))

-- the line of a block that is claimed more than once, computed from the words (icheck)
abbrev pub dup_line_in : Geometry → List ℕ → ℕ → List Line
dup_line_in g words b = dup_line_of b (places_in g words b) (is_met_in g words b)

-- the line of a block that is lost, computed from the words (icheck)
abbrev pub lost_line_in : Geometry → List ℕ → ℕ → List Line
lost_line_in g words b = lost_line_of b (is_lost_in g words b)

-- the line of a total (icheck)
abbrev pub total_line : Total → ℕ → List Line
total_line total count = lines.Total total count ∷ []

-- the totals, computed from the words (icheck)
abbrev pub total_lines_in : Geometry → List ℕ → List Line
total_lines_in g words =
    lines.Total totals.Files (slice_index words (kind_word g 0))
    ∷ lines.Total totals.Directories (slice_index words (kind_word g 1))
    ∷ lines.Total totals.Special (slice_index words (kind_word g 2))
    ∷ lines.Total totals.Odd (slice_index words (kind_word g 3))
    ∷ lines.Total totals.Used (zone_count g (is_used_in g words))
    ∷ lines.Total totals.Free (zone_count g (is_met_in g words))
    ∷ lines.Total totals.Missing (zone_count g (is_lost_in g words))
    ∷ []

-- a line for each i-number that has one, in ascending order (this project)
abbrev pub inode_lines : Geometry → (ℕ → List Line) → List Line
inode_lines g line = flat_map line (range_with_len 1 g.last_inode)

-- a line for each data block that has one, in ascending order (this project)
abbrev pub zone_lines : Geometry → (ℕ → List Line) → List Line
zone_lines g line = flat_map line (range_with_len g.zone_start (zone_len g))

-- lines appended to other lines (this project)
abbrev pub Appended : List Line → List Line → List Line → Type 0
Appended old new added = new ≡ old ++ added

-- the line of i-number `i`, computed from the words and the link counts (dcheck)
abbrev pub links_line_in : List ℕ → List LinkCount → LinkCount → ℕ → List Line
links_line_in words links none i =
    links_line_of i (slice_index words (entry_word i)) (slice_index_or links (i - 1) none).links (slice_index_or links (i - 1) none).wants_entry

-- the link count used for an i-number that isn't in the list (this project)
abbrev pub no_links : LinkCount
no_links = record { links = 0; wants_entry = false }
