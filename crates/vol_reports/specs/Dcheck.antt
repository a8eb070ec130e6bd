-- The entry report.
use Rattle.std.specs.Prelude.{ℕ, ◌==◌, ◌&&◌, ◌||◌, Bool, true, false, not, nat_le, if◌then◌else◌, List, [], ◌∷◌}
use Rattle.std.specs.List.{flat_map, range_with_len}
use Rattle.vol_layout.specs.Inode.{inode_of}
use Rattle.vol_layout.specs.declared.geometry.Geometry.{Geometry}
use Rattle.vol_layout.specs.declared.mode.Kind.{Kind}
use Rattle.vol_layout.specs.declared.mode.Kind.TheVariants as kinds
use Rattle.vol_file.specs.Rules.{kind_at}
use Rattle.vol_judge.specs.Directories.{root_of, entry_count}
use Rattle.vol_reports.specs.declared.line.Line.{Line}
use Rattle.vol_reports.specs.declared.line.Line.TheVariants as lines

-- true if an i-node of a kind is allocated (manual section 5, file system)
abbrev pub is_allocated : Kind → Bool
is_allocated kinds.Free = false
is_allocated kinds.Regular = true
is_allocated kinds.Directory = true
is_allocated kinds.Special = true
is_allocated kinds.Odd = true

-- the link count of i-node `i`, or 0 if it is free (dcheck; the 0 is this project's)
abbrev pub link_count : Geometry → List ℕ → ℕ → ℕ
link_count g image i = if is_allocated (kind_at g image i) then (inode_of g.edition image i).links else 0

-- true if i-node `i` must have an entry: it is allocated, and isn't reserved for bad blocks, as the seventh edition reserves the i-number before the
-- root's (dcheck)
abbrev pub wants_entry : Geometry → List ℕ → ℕ → Bool
wants_entry g image i = is_allocated (kind_at g image i) && nat_le (root_of g) i

-- the line of an i-number with these numbers of entries and links: none if they agree, unless both are 0 and an entry is wanted (dcheck)
abbrev pub links_line_of : ℕ → ℕ → ℕ → Bool → List Line
links_line_of i entries links wanted =
    if not (entries == links) || ((entries == 0) && wanted) then lines.Links i entries links ∷ [] else []

-- the line of i-number `i`, if its number of entries and its link count disagree (dcheck)
abbrev pub links_line : Geometry → List ℕ → ℕ → List Line
links_line g image i = links_line_of i (entry_count g image i) (link_count g image i) (wants_entry g image i)

-- the entry report of an image with a geometry, in ascending order (dcheck)
unfoldable pub entry_lines : Geometry → List ℕ → List Line
entry_lines g image = flat_map (links_line g image) (range_with_len 1 g.last_inode)
