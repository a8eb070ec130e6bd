-- The records of the i-numbers after a request.
use Rattle.std.specs.Prelude.{ℕ, zero, suc, ◌+◌, ◌==◌, ◌||◌, ◌&&◌, not, Bool, true, false, if◌then◌else◌, List, length, slice_get, Option, None, Some, Result, Ok, Err}
use Rattle.std.specs.Option.{option_map, option_map_or, option_or, is_some}
use Rattle.fuse_words.specs.declared.operation.Operation.{Operation}
use Rattle.fuse_words.specs.declared.operation.Operation.TheVariants as operations
use Rattle.fuse_words.specs.declared.request.Header.{Header}
use Rattle.vol_layout.specs.Edition.{constants}
use Rattle.vol_layout.specs.declared.edition.Edition.{Edition}
use Rattle.vol_layout.specs.declared.geometry.Geometry.{Geometry}
use Rattle.vol_layout.specs.declared.mode.Kind.{Kind}
use Rattle.vol_layout.specs.declared.mode.Kind.TheVariants as kinds
use Rattle.vol_dir.specs.Entries.{entry_at, slot_count}
use Rattle.vol_dir.specs.Names.{Names, is_dots}
use Rattle.vol_dir.specs.Tree.{Tree, tree}
use Rattle.vol_volume.specs.declared.queries.Stat.{Stat}
use Rattle.vol_serve.specs.Nodes.{stat_in, names_in, look_up}
use Rattle.vol_serve.specs.declared.nodes.fault.NodeFault.{NodeFault}
use Rattle.vol_mounted.specs.Numbers.{i_number, with_known, met, born, opened, closed}
use Rattle.vol_mounted.specs.Paths.{place_of}
use Rattle.vol_mounted.specs.declared.known.KnownNode.{KnownNode}

-- the records after a name in directory d was looked up: if it leads to a node, the node was found by it, unless the name is `.` or `..`, or the node
-- is the root; if the node is new, its i-number was allocated again before (this project)
abbrev pub found_by : Edition → List KnownNode → Bool → ℕ → List ℕ → Result ℕ NodeFault → List KnownNode
found_by edition nodes is_new d name (Ok i) =
    let counted = if is_new then with_known nodes i born else nodes in
    if is_dots name || (i == (constants edition).root) then counted else met counted i d name
found_by edition nodes is_new d name (Err fault) = nodes

-- the records after a name was looked up in a directory, if there is such a directory (this project)
abbrev pub found_in : Geometry → List ℕ → List KnownNode → Bool → List ℕ → Option ℕ → List KnownNode
found_in geometry image nodes is_new name None = nodes
found_in geometry image nodes is_new name (Some d) = found_by geometry.edition nodes is_new d name (look_up (tree geometry image) d name)

-- the records after a name was looked up in the directory with this node number (this project)
abbrev pub found : Geometry → List ℕ → List KnownNode → Bool → ℕ → List ℕ → List KnownNode
found geometry image nodes is_new node name = found_in geometry image nodes is_new name (i_number geometry.edition nodes node)

-- true for the kind of a regular file (manual section 5, file system)
abbrev pub is_file : Kind → Bool
is_file kinds.Regular = true
is_file kind = false

-- the records after node i was opened, which is counted if it is a regular file (open)
abbrev pub opened_in : Geometry → List ℕ → List KnownNode → Option ℕ → List KnownNode
opened_in geometry image nodes None = nodes
opened_in geometry image nodes (Some i) =
    if option_map_or (λ (stat : Stat). is_file stat.kind) (stat_in (tree geometry image) i) false then with_known nodes i opened else nodes

-- the records after node i was closed (close)
abbrev pub closed_in : List KnownNode → Option ℕ → List KnownNode
closed_in nodes None = nodes
closed_in nodes (Some i) = with_known nodes i closed

-- the records after an operation whose calls were all made: LOOKUP, LINK and a rename find a node by a name, MKNOD and MKDIR find a new one, OPEN and
-- RELEASE are counted, and no other operation changes a record (fuse_opcode)
unfoldable pub settled : Geometry → List ℕ → List KnownNode → Header → Operation → List KnownNode
settled geometry image nodes header (operations.Lookup name) = found geometry image nodes false header.node name
settled geometry image nodes header (operations.Link node name) = found geometry image nodes false header.node name
settled geometry image nodes header (operations.MkNod mode device name) = found geometry image nodes true header.node name
settled geometry image nodes header (operations.MkDir mode name) = found geometry image nodes true header.node name
settled geometry image nodes header (operations.Rename directory name new_name) = found geometry image nodes false directory new_name
settled geometry image nodes header (operations.Rename2 directory flags name new_name) = found geometry image nodes false directory new_name
settled geometry image nodes header (operations.Open flags) = opened_in geometry image nodes (i_number geometry.edition nodes header.node)
settled geometry image nodes header (operations.Release handle) = closed_in nodes (i_number geometry.edition nodes header.node)
settled geometry image nodes header operation = nodes

-- the name in an entry, if it is a name of node i other than `.` and `..` (manual section 5, directories)
abbrev pub name_for : ℕ → Option (List ℕ × ℕ) → Option (List ℕ)
name_for i None = None
name_for i (Some entry) = if (entry.1 == i) && not (is_dots entry.0) then Some entry.0 else None

-- the first value at `count` numbers, starting at n, if there is one (this project)
unfoldable pub first_value : {X : Type 0} → (ℕ → Option X) → ℕ → ℕ → Option X
first_value value n zero = None
first_value value n (suc count) = option_or (value n) (first_value value (n + 1) count)

-- a value, if a node is a directory (this project)
abbrev pub if_directory : {X : Type 0} → Result Names NodeFault → Option X → Option X
if_directory (Ok names) value = value
if_directory (Err fault) value = None

-- the first name of node i in directory d, in the order of the slots, if there is one (manual section 5, directories)
abbrev pub name_in : Geometry → List ℕ → ℕ → ℕ → Option (List ℕ)
name_in geometry image i d =
    if_directory (names_in (tree geometry image) d)
    (first_value (λ s. name_for i (entry_at geometry image d s)) 0 (slot_count geometry image d))

-- the first name of node i in any directory, in the order of the directories' i-numbers, if there is one, with the directory (this project)
abbrev pub place_for : Geometry → List ℕ → ℕ → Option (ℕ × List ℕ)
place_for geometry image i =
    first_value (λ (d : ℕ). option_map (λ (name : List ℕ). (d, name)) (name_in geometry image i d)) 1 geometry.last_inode

-- true if a name was looked up and led to node i (this project)
abbrev pub is_found : Result ℕ NodeFault → ℕ → Bool
is_found (Ok found) i = found == i
is_found (Err fault) i = false

-- true if a name in a directory is known and leads to node i (this project)
abbrev pub leads_there : Tree → ℕ → Option (ℕ × List ℕ) → Bool
leads_there tree i None = false
leads_there tree i (Some place) = is_found (look_up tree place.0 place.1) i

-- the records after node i was found in a directory, and then what comes next for the directory; the records, if there is none (this project)
abbrev pub met_at : List KnownNode → ℕ → Option (ℕ × List ℕ) → (List KnownNode → ℕ → List KnownNode) → List KnownNode
met_at nodes i None next = nodes
met_at nodes i (Some place) next = next (met nodes i place.0 place.1) place.0

-- the records after a name was searched for node i, then for its directory, and so on upwards, until the root, or a node whose last known name still
-- leads to it, or a limited number of directories (this project)
unfoldable pub met_again : Geometry → List ℕ → ℕ → List KnownNode → ℕ → List KnownNode
met_again geometry image zero nodes i = nodes
met_again geometry image (suc steps) nodes i =
    if (i == (constants geometry.edition).root) || leads_there (tree geometry image) i (place_of (slice_get nodes i)) then nodes
    else met_at nodes i (place_for geometry image i) (λ more directory. met_again geometry image steps more directory)

-- the records after node i lost a name: if it has others, one of them is found, if it isn't known already (unlink)
abbrev pub after_loss : Geometry → List ℕ → List KnownNode → Option ℕ → List KnownNode
after_loss geometry image nodes None = nodes
after_loss geometry image nodes (Some i) =
    if is_some (stat_in (tree geometry image) i) then met_again geometry image (length nodes) nodes i else nodes

-- the records after an operation, whose calls were all made or not, and through which a node, if any, lost a name (this project)
abbrev pub remembered : Geometry → List ℕ → List KnownNode → Header → Operation → Bool → Option ℕ → List KnownNode
remembered geometry image nodes header operation is_made lost =
    after_loss geometry image (if is_made then settled geometry image nodes header operation else nodes) lost
