-- Reading one node of the tree.
use Rattle.std.specs.Prelude.{ℕ, ◌+◌, ◌*◌, max, List, [], None}
use Rattle.std.specs.Option.{unwrap_or}
use Rattle.vol_dir.specs.Names.{Names, get}
use Rattle.vol_dir.specs.Tree.{Body, Node, Tree, State}
use Rattle.vol_dir.specs.Walk.{map_of}
use Rattle.vol_dir.specs.Search.{new_slot}

-- the default for a node that doesn't exist; no path leads to it (this project)
abbrev pub no_node : Node
no_node = record { content = Body []; permissions = 0; links = 0; uid = 0; gid = 0; size = 0; accessed = 0; modified = 0; changed = None }

-- the node of an i-number (manual section 5, file system)
abbrev pub node_at : Tree → ℕ → Node
node_at tree i = unwrap_or (tree.nodes i) no_node

-- the entries of a directory, as a map from names to i-numbers (manual section 5, directories)
abbrev pub names_at : Tree → ℕ → Names
names_at tree i = unwrap_or (map_of (node_at tree i).content) []

-- the i-number of a name in directory d, or 0 if d doesn't have the name (Lions on namei)
abbrev pub number_of_name : Tree → ℕ → List ℕ → ℕ
number_of_name tree d name = unwrap_or (get (names_at tree d) name) 0

-- the size of directory d once another entry is added: the first empty slot is within the old size, or at its end (Lions on wdir)
abbrev pub size_with_entry : State → ℕ → ℕ
size_with_entry state d = max (node_at state.tree d).size (16 * new_slot (state.shapes d).slots + 16)
