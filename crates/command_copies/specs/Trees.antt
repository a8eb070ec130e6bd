-- The trees of a volume that are copied into a folder of the host.
use Rattle.std.specs.Prelude.{◌≡◌, ◌⊎◌, ℕ, Bool, true, false, List, [], ◌∷◌, ◌++◌, ◌==◌, if◌then◌else◌, length, codes, map, Result, Ok, Err, unwrap_or}
use Rattle.std.specs.List.{flat_map}
use Rattle.std.specs.Path.{path_file_name}
use Rattle.vol_layout.specs.Geometry.{geometry_of}
use Rattle.vol_layout.specs.declared.edition.Edition.{Edition}
use Rattle.vol_layout.specs.declared.geometry.Geometry.{Geometry}
use Rattle.vol_dir.specs.Access.{user}
use Rattle.vol_dir.specs.Tree.{tree}
use Rattle.vol_dir.specs.Walk.{walk}
use Rattle.vol_dir.specs.declared.refusal.Refusal.{Refusal}
use Rattle.vol_judge.specs.Sound.{IsSound}
use Rattle.vol_archive.specs.Export.{is_directory}
use Rattle.vol_archive.specs.Walk.{IsWalk, path_below}
use Rattle.vol_archive.specs.declared.met_entries.MetEntry.{MetEntry}
use Rattle.vol_listing.specs.Listings.{shown_path}
use Rattle.vol_listing.specs.Places.{joined}
use Rattle.vol_rescue.specs.Lines.{named_line, reason_text}
use Rattle.command_faults.specs.Faults.{IsCause, fault_line, fault_status, no_memory, refusal_status}
use Rattle.command_faults.specs.PathLines.{path_line}
use Rattle.command_faults.specs.declared.fault.Fault.{Fault}
use Rattle.command_copies.specs.Nodes.{CopiedNode, copied_as, entry_node, node_at}
use Rattle.command_copies.specs.declared.nodes.Uncopied.{Uncopied}
use Rattle.command_copies.specs.declared.nodes.Uncopied.TheVariants.{Device, Left, Special, NotText, Spaced}
use Rattle.command_copies.specs.declared.trees.TreesRead.{TreesRead}

-- the last name of a path, under which it is copied; empty if the path ends in `..` or has no names (std::path)
abbrev pub name_of : List ℕ → List ℕ
name_of path = unwrap_or (path_file_name path) []

-- the reason why an entry isn't copied, in plain words (this project)
abbrev pub uncopied_text : Uncopied → List ℕ
uncopied_text (Left reason) = reason_text reason
uncopied_text Special = codes "a special file"
uncopied_text NotText = codes "the name is not UTF-8 text"
uncopied_text Spaced = codes "a list has no place for a space or a newline in a path"
uncopied_text Device = codes "a list has no place for such a special file"

-- the line about the path of an entry that isn't copied (this project)
abbrev pub uncopied_line : List ℕ → Uncopied → List ℕ
uncopied_line shown why = named_line shown (codes ": ") (uncopied_text why)

-- the status of a command that copied what it could: 1 if there are lines about the rest (this project)
abbrev pub told_status : List ℕ → ℕ
told_status lines = if length lines == 0 then 0 else 1

-- the node, if it is copied (this project)
abbrev pub nodes_of : Result CopiedNode Uncopied → List CopiedNode
nodes_of (Ok node) = node ∷ []
nodes_of (Err why) = []

-- the line about a path, if its entry isn't copied (this project)
abbrev pub line_of : List ℕ → Result CopiedNode Uncopied → List ℕ
line_of shown (Ok node) = []
line_of shown (Err why) = uncopied_line shown why

-- what is copied of an entry that a walk met below a directory, which is copied under this name (cp -r)
abbrev pub met_node : Geometry → List ℕ → List ℕ → MetEntry → Result CopiedNode Uncopied
met_node g image name found = entry_node g image (path_below name found.path) found.inode found.role

-- the node of such an entry, if it is copied (cp -r)
abbrev pub entry_nodes : Geometry → List ℕ → List ℕ → MetEntry → List CopiedNode
entry_nodes g image name found = nodes_of (met_node g image name found)

-- the line about such an entry, if it isn't copied; it has the path below `top`, the path of the directory (this project)
abbrev pub entry_line : Geometry → List ℕ → List ℕ → List ℕ → MetEntry → List ℕ
entry_line g image name top found = line_of (joined top found.path) (met_node g image name found)

-- the entries are all that a walk meets below an i-node; none if it is no directory (find)
abbrev pub AreBelowIf : Bool → Geometry → List ℕ → ℕ → List MetEntry → Type 0
AreBelowIf true g image start founds = IsWalk g image start founds
AreBelowIf false g image start founds = founds ≡ []

-- what is copied of an i-node to which a path leads: the node itself under the last name of the path, and everything below it; and the lines about the
-- entries that aren't copied (cp -r)
pub record IsTreeAt (g : Geometry) (image : List ℕ) (path : List ℕ) (start : ℕ) (nodes : List CopiedNode) (lines : List ℕ) : Type 0 where
  pub founds : List MetEntry
  pub below : AreBelowIf (is_directory g image start) g image start founds
  pub copied : nodes ≡ nodes_of (node_at g image (name_of path) start) ++ flat_map (entry_nodes g image (name_of path)) founds
  pub told : lines ≡ line_of (shown_path path) (node_at g image (name_of path) start) ++ flat_map (entry_line g image (name_of path) (shown_path path)) founds

-- what is copied from a path of a volume: that of the i-node to which it leads, walked by user 0 (cp -r; Lions on namei)
pub record IsTreeRead (g : Geometry) (image : List ℕ) (path : List ℕ) (nodes : List CopiedNode) (lines : List ℕ) : Type 0 where
  pub start : ℕ
  pub leads : walk (tree g image) user path ≡ Ok start
  pub tree : IsTreeAt g image path start nodes lines

-- what is copied from some paths of a volume, in order (cp -r)
pub data AreTreesRead (g : Geometry) (image : List ℕ) : List (List ℕ) → List CopiedNode → List ℕ → Type 0 where
  none : AreTreesRead g image [] [] []
  more : (paths : List (List ℕ)) (nodes : List CopiedNode) (lines : List ℕ) (path : List ℕ) (last : List CopiedNode) (told : List ℕ)
      → AreTreesRead g image paths nodes lines → IsTreeRead g image path last told
      → AreTreesRead g image (paths ++ path ∷ []) (nodes ++ last) (lines ++ told)

-- what is copied from a path was appended (this project)
abbrev pub AppendsTree : Geometry → List ℕ → List ℕ → TreesRead → TreesRead → Type 0
AppendsTree g image path old new =
    (last : List CopiedNode) × (told : List ℕ) × IsTreeRead g image path last told
    × (map copied_as new.nodes.items ≡ map copied_as old.nodes.items ++ last) × (new.lines.items ≡ old.lines.items ++ told)

-- what is copied of an i-node to which a path leads was appended (this project)
abbrev pub AppendsTreeAt : Geometry → List ℕ → List ℕ → ℕ → TreesRead → TreesRead → Type 0
AppendsTreeAt g image path start old new =
    (last : List CopiedNode) × (told : List ℕ) × IsTreeAt g image path start last told
    × (map copied_as new.nodes.items ≡ map copied_as old.nodes.items ++ last) × (new.lines.items ≡ old.lines.items ++ told)

-- a path leads nowhere, and the fault has its refusal, with the path (this project)
abbrev pub IsRefusedPath : Geometry → List ℕ → List ℕ → Fault → Type 0
IsRefusedPath g image path fault =
    (refusal : Refusal) × (walk (tree g image) user path ≡ Err refusal)
    × (fault_status fault ≡ refusal_status refusal) × (fault_line fault ≡ path_line refusal path)

-- the fault of a path from which nothing is read: out of memory, or its refusal (this project)
abbrev pub IsPathFault : Geometry → List ℕ → List ℕ → Fault → Type 0
IsPathFault g image path fault = (fault ≡ no_memory) ⊎ IsRefusedPath g image path fault

-- this fault is that of the first of some paths that leads nowhere (this project)
pub record IsFirstRefused (g : Geometry) (image : List ℕ) (paths : List (List ℕ)) (fault : Fault) : Type 0 where
  pub front : List (List ℕ)
  pub path : List ℕ
  pub rest : List (List ℕ)
  pub are : paths ≡ front ++ path ∷ rest
  pub nodes : List CopiedNode
  pub lines : List ℕ
  pub read : AreTreesRead g image front nodes lines
  pub refused : IsRefusedPath g image path fault

-- the fault of some paths from which nothing is read: out of memory, or that of the first path that leads nowhere (this project)
abbrev pub IsUnread : Geometry → List ℕ → List (List ℕ) → Fault → Type 0
IsUnread g image paths fault = (fault ≡ no_memory) ⊎ IsFirstRefused g image paths fault

-- the result of reading the trees at some paths: what is copied from all of them, of a sound image; or a fault: out of memory, the first rule that the
-- image breaks, or that of the first path of a sound image that leads nowhere (cp -r)
abbrev pub GetsTrees : Edition → List ℕ → List (List ℕ) → Result TreesRead Fault → Type 0
GetsTrees edition image paths (Ok read) =
    IsSound edition image × AreTreesRead (geometry_of edition image) image paths (map copied_as read.nodes.items) read.lines.items
GetsTrees edition image paths (Err fault) =
    IsCause edition image (λ refusal. ⊥) fault ⊎ (IsSound edition image × IsFirstRefused (geometry_of edition image) image paths fault)
