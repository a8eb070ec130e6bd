-- The directories of a listing, and their contents.
use Rattle.std.specs.Prelude.{◌≡◌, ◌-◌, ◌&&◌, ◌==◌, ℕ, Bool, not, if◌then◌else◌, List, [], ◌∷◌, ◌++◌, length, slice_index, Result, Ok, Err}
use Rattle.std.specs.List.{flat_map}
use Rattle.vol_dir.specs.Names.{Names, is_dots}
use Rattle.vol_dir.specs.Tree.{Tree}
use Rattle.vol_dir.specs.Walk.{is_directory, walk}
use Rattle.vol_change.specs.Nodes.{names_at, node_at}
use Rattle.vol_dir.specs.declared.refusal.Refusal.{Refusal}
use Rattle.vol_dir.specs.Access.{user}
use Rattle.vol_listing.specs.declared.places.ListedNode.{ListedNode}

-- the names in the directory at the end of a walk; none if it leads to no directory (ls -a)
abbrev pub names_after : Tree → Result ℕ Refusal → Names
names_after tree (Ok i) = names_at tree i
names_after tree (Err refusal) = []

-- the names in the directory at a path, in ascending order, as user 0 sees them; none if the path leads to no directory (ls -a)
unfoldable pub names_under : Tree → List ℕ → Names
names_under tree path = names_after tree (walk tree user path)

-- true if a path ends in a slash (this project)
abbrev pub ends_in_slash : List ℕ → Bool
ends_in_slash path = slice_index path (length path - 1) == 47

-- the path of a name in the directory at a path, with a slash between the two (this project)
abbrev pub joined : List ℕ → List ℕ → List ℕ
joined path name = if ends_in_slash path then path ++ name else path ++ 47 ∷ name

-- an entry of the directory at a path, as a listed node (this project)
abbrev pub place_of : List ℕ → List ℕ × ℕ → ListedNode
place_of path entry = record { path = joined path entry.0; inode = entry.1 }

-- true if a listing descends into an entry: it is a directory, and neither `.` nor `..` (ls -R)
abbrev pub is_below : Tree → List ℕ × ℕ → Bool
is_below tree entry = not (is_dots entry.0) && is_directory (node_at tree entry.1)

-- an entry of the directory at a path, as a listed node, if a listing descends into it (ls -R)
abbrev pub directory_below : Tree → List ℕ → List ℕ × ℕ → List ListedNode
directory_below tree path entry = if is_below tree entry then place_of path entry ∷ [] else []

-- the subdirectories of a directory, in ascending order of their names (ls -R)
unfoldable pub below : Tree → ListedNode → List ListedNode
below tree place = flat_map (directory_below tree place.path) (names_under tree place.path)

-- all directories that a listing reaches from the pending ones: each pending directory in turn, followed by everything below it before the next (ls
-- -R)
pub data Descends (tree : Tree) : List ListedNode → List ListedNode → Type 0 where
  ends : Descends tree [] []
  goes : (place : ListedNode) (pending all : List ListedNode) → Descends tree (below tree place ++ pending) all → Descends tree (place ∷ pending) (place ∷ all)

-- all directories below a directory (ls -R)
abbrev pub AllBelow : Tree → ListedNode → List ListedNode → Type 0
AllBelow tree place all = Descends tree (below tree place) all
