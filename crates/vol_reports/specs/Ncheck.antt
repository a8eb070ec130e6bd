-- The name report.
use Rattle.std.specs.Prelude.{◌≡◌, ℕ, zero, suc, ◌+◌, ◌==◌, if◌then◌else◌, List, [], ◌∷◌, ◌++◌, map, Option, None, Some}
use Rattle.std.specs.List.{sum_by, flat_map, range_with_len, list_any}
use Rattle.std.specs.List.Sorted.{IsSorted}
use Rattle.std.specs.Cmp.Lexicographic.{slice_cmp}
use Rattle.std.specs.Ordering.{nat_cmp, ordering_then}
use Rattle.std.specs.declared.cmp.Ordering.{Ordering}
use Rattle.std.specs.Option.{option_map_or}
use Rattle.vol_layout.specs.declared.geometry.Geometry.{Geometry}
use Rattle.vol_layout.specs.declared.mode.Kind.{Kind}
use Rattle.vol_layout.specs.declared.mode.Kind.TheVariants as kinds
use Rattle.vol_file.specs.Rules.{kind_at}
use Rattle.vol_dir.specs.Entries.{entry_at, slot_count}
use Rattle.vol_dir.specs.Names.{is_dots}
use Rattle.vol_judge.specs.Directories.{root_of}
use Rattle.vol_reports.specs.Placed.{Placed, placed}
use Rattle.vol_reports.specs.declared.line.Line.{Line}
use Rattle.vol_reports.specs.declared.line.Line.TheVariants as lines

-- the entry in slot `s` of directory `d`, if there is one and its name is neither `.` nor `..` (ncheck)
abbrev pub entered : ℕ → ℕ → Option (List ℕ × ℕ) → List Placed
entered d s None = []
entered d s (Some entry) = if is_dots entry.0 then [] else placed d s entry.1 entry.0 ∷ []

-- the entries of directory `d`, in the order of their slots (ncheck)
unfoldable pub entries_of : Geometry → List ℕ → ℕ → List Placed
entries_of g image d = flat_map (λ s. entered d s (entry_at g image d s)) (range_with_len 0 (slot_count g image d))

-- the entries in i-number `d` of this kind; only directories have entries (ncheck)
abbrev pub entries_in : Geometry → List ℕ → ℕ → Kind → List Placed
entries_in g image d kinds.Directory = entries_of g image d
entries_in g image d kinds.Free = []
entries_in g image d kinds.Regular = []
entries_in g image d kinds.Special = []
entries_in g image d kinds.Odd = []

-- all entries, ordered by directory and slot (ncheck)
unfoldable pub all_entries : Geometry → List ℕ → List Placed
all_entries g image = flat_map (λ d. entries_in g image d (kind_at g image d)) (range_with_len 1 g.last_inode)

-- the naming entry of i-number `i`: the first entry that is for it (ncheck)
unfoldable pub naming_entry : ℕ → List Placed → Option Placed
naming_entry i [] = None
naming_entry i (entry ∷ entries) = if entry.inode == i then Some entry else naming_entry i entries

-- a name after a slash (ncheck)
abbrev pub slashed : List ℕ → List ℕ
slashed name = 47 ∷ name

-- the beginning of a path that doesn't start at the root (ncheck)
abbrev pub dots : List ℕ
dots = 46 ∷ 46 ∷ 46 ∷ []

-- the path of directory `d`, found by climbing from it, where each i-number may have a naming entry. At the root the path begins with nothing; at a
-- directory that this climb passed before, or that has no naming entry, it begins with dots. Otherwise it ends with the naming entry's name, and the
-- climb continues at that entry's directory. Each directory uses up one `suc` (ncheck)
unfoldable pub path_up : ℕ → (ℕ → Option Placed) → ℕ → List ℕ → ℕ → List ℕ
path_up root naming zero met d = dots
path_up root naming (suc fuel) met d =
    if d == root then []
    else if list_any (λ e. e == d) met then dots
    else option_map_or (λ (entry : Placed). path_up root naming fuel (d ∷ met) entry.directory ++ slashed entry.name) (naming d) dots

-- the path of a directory; a climb passes each directory at most once, so it ends within the given number of steps (ncheck)
abbrev pub directory_path : Geometry → (ℕ → Option Placed) → ℕ → List ℕ
directory_path g naming d = path_up (root_of g) naming (g.last_inode + 2) [] d

-- an entry's i-number and path (ncheck)
abbrev pub named_path : Geometry → (ℕ → Option Placed) → Placed → ℕ × List ℕ
named_path g naming entry = (entry.inode, directory_path g naming entry.directory ++ slashed entry.name)

-- the i-number and the path of each entry (ncheck)
unfoldable pub named_paths : Geometry → List ℕ → List (ℕ × List ℕ)
named_paths g image = map (named_path g (λ i. naming_entry i (all_entries g image))) (all_entries g image)

-- the order of the report: first by i-number, then by the bytes of the path (this project)
abbrev pub pair_cmp : ℕ × List ℕ → ℕ × List ℕ → Ordering
pair_cmp a b = ordering_then (nat_cmp a.0 b.0) (slice_cmp nat_cmp a.1 b.1)

-- the line of an i-number and a path (ncheck)
abbrev pub name_line : ℕ × List ℕ → Line
name_line pair = lines.Name pair.0 pair.1

-- the name report of an image with a geometry: a line for each entry, in order; equal lines are all kept (ncheck)
pub record IsNameLines (g : Geometry) (image : List ℕ) (report : List Line) : Type 0 where
  pub pairs : List (ℕ × List ℕ)
  pub lines : report ≡ map name_line pairs
  pub sorted : IsSorted pair_cmp pairs
  pub same : (weight : ℕ × List ℕ → ℕ) → sum_by weight pairs ≡ sum_by weight (named_paths g image)
