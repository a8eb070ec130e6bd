-- Changes of one node of the tree. The effects of calls are built from them.
use Rattle.std.specs.Prelude.{ℕ, ◌+◌, ◌-◌, ◌%◌, ◌==◌, max, nat_le, if◌then◌else◌, List, [], ◌∷◌, length, replicate, take, Option, None}
use Rattle.std.specs.Option.{option_map}
use Rattle.vol_file.specs.Changes.{spliced}
use Rattle.vol_file.specs.Shape.{touched}
use Rattle.vol_dir.specs.Names.{Names, insert, remove, dot, dot_dot}
use Rattle.vol_dir.specs.Tree.{Content, Body, Directory, Device, Node, Shape, State, no_shape}
use Rattle.vol_change.specs.Nodes.{node_at, size_with_entry}
use Rattle.vol_change.specs.Shapes.{stored_shape, shape_with_entry, shape_without_entry, cut_shape}
use Rattle.vol_layout.specs.Inode.{device_number, device_type, first_change}
use Rattle.vol_layout.specs.declared.edition.Edition.{Edition}
use Rattle.vol_dir.specs.declared.cred.Cred.{Cred}
use Rattle.vol_layout.specs.declared.mode.Kind.{Kind}
use Rattle.vol_layout.specs.declared.mode.Kind.TheVariants as kinds
use Rattle.vol_change.specs.declared.new_nodes.NewFile.{NewFile}
use Rattle.vol_change.specs.declared.new_nodes.NewFile.TheVariants as files

-- a value for each i-number, replaced at i (this project)
abbrev pub set_at : {X : Type 0} → (ℕ → X) → ℕ → X → ℕ → X
set_at values i value j = if j == i then value else values j

-- the state with node i replaced, or removed if None is given (this project)
abbrev pub put_node : ℕ → Option Node → State → State
put_node i node state = record state { tree = record state.tree { nodes = set_at state.tree.nodes i node } }

-- the state with node i changed (this project)
abbrev pub change_node : ℕ → (Node → Node) → State → State
change_node i change state = put_node i (option_map change (state.tree.nodes i)) state

-- the state with the shape of file i replaced (this project)
abbrev pub put_shape : ℕ → Shape → State → State
put_shape i shape state = record state { shapes = set_at state.shapes i shape }

-- the state without node i and without its shape (Lions on iput)
abbrev pub remove_node : ℕ → State → State
remove_node i state = put_shape i no_shape (put_node i None state)

-- the state with the super-block's time set to the time of the call (filsys.h)
abbrev pub at_time : ℕ → State → State
at_time now state = record state { tree = record state.tree { time = now } }

-- a node after a change of its i-node; the seventh edition stores the time of this change (ino.h)
abbrev pub stamped : ℕ → Node → Node
stamped now node = record node { changed = option_map (λ _. now) node.changed }

-- a node after a change of its bytes or entries, which also changes its i-node (manual section 5, file system)
abbrev pub modified : ℕ → Node → Node
modified now node = record (stamped now node) { modified = now }

-- the kind of a new file (this project)
abbrev pub new_kind : NewFile → Kind
new_kind files.Regular = kinds.Regular
new_kind (files.Special device) = kinds.Special

-- the content of a new file: a regular file is empty, and the first address of a special file is the number of its device (Lions on maknode; mknod,
-- section 2 of the manual)
abbrev pub new_content : Edition → NewFile → Content
new_content edition files.Regular = Body []
new_content edition (files.Special device) = Device (device_type edition device.kind) (device_number device ∷ replicate 12 0)

-- a new node owned by the caller; all its times are the time of the call (Lions on maknode)
abbrev pub new_node : Edition → Cred → ℕ → ℕ → Content → ℕ → ℕ → Node
new_node edition cred now perm content links size = record {
  content = content;
  permissions = perm % 4096;
  links = links;
  uid = cred.uid;
  gid = cred.gid;
  size = size;
  accessed = now;
  modified = now;
  changed = first_change edition now;
}

-- the content of a directory with its entries changed; the content of other nodes is unchanged (manual section 5, directories)
abbrev pub change_names : (Names → Names) → Content → Content
change_names change (Directory names) = Directory (change names)
change_names change (Body bytes) = Body bytes
change_names change (Device type addresses) = Device type addresses

-- an entry for i is added to directory d: to its map, its size and its slots, and the block of the slot is allocated if it is missing; the
-- directory's times change by `timed` (Lions on wdir)
abbrev pub entry_added : (Node → Node) → ℕ → List ℕ → ℕ → State → State
entry_added timed d name i state =
    put_shape d (shape_with_entry state.tree.geometry.edition (state.shapes d) name)
    (change_node d (λ node. record (timed node) {
      content = change_names (λ names. insert names name i) node.content;
      size = size_with_entry state d;
    }) state)

-- an entry for i is added to directory d, and its time of last modification becomes `now` (Lions on wdir)
abbrev pub add_entry : ℕ → ℕ → List ℕ → ℕ → State → State
add_entry now = entry_added (modified now)

-- an entry of directory d is removed and its slot becomes empty; the size doesn't change, and the times change by `timed` (Lions on unlink)
abbrev pub entry_removed : (Node → Node) → ℕ → List ℕ → State → State
entry_removed timed d name state =
    put_shape d (shape_without_entry (state.shapes d) name)
    (change_node d (λ node. record (timed node) {
      content = change_names (λ names. remove names name) node.content;
    }) state)

-- an entry of directory d is removed, and its time of last modification becomes `now` (Lions on unlink)
abbrev pub remove_entry : ℕ → ℕ → List ℕ → State → State
remove_entry now = entry_removed (modified now)

-- a node with its link count replaced, which changes its i-node (Lions on link)
abbrev pub with_links : ℕ → ℕ → Node → Node
with_links now links node = record (stamped now node) { links = links }

-- a node with its permission bits, those in octal 7777, replaced, which changes its i-node (chmod, section 2 of the manual)
abbrev pub with_permission_bits : ℕ → ℕ → Node → Node
with_permission_bits now perm node = record (stamped now node) { permissions = perm % 4096 }

-- a node with its user and group replaced, which changes its i-node (chown, section 2 of the manual)
abbrev pub with_owner : ℕ → ℕ → ℕ → Node → Node
with_owner now uid gid node = record (stamped now node) { uid = uid; gid = gid }

-- a node with its times of last access and last modification replaced; the time of its i-node's change becomes the time of the call (utime, section 2
-- of the manual)
abbrev pub with_times : ℕ → ℕ → ℕ → Node → Node
with_times now accessed modified node = record (stamped now node) { accessed = accessed; modified = modified }

-- node i gets one more link (Lions on link)
abbrev pub add_link : ℕ → ℕ → State → State
add_link now i state = change_node i (λ node. record (stamped now node) { links = node.links + 1 }) state

-- node i loses a link (Lions on unlink)
abbrev pub drop_link : ℕ → ℕ → State → State
drop_link now i state = change_node i (λ node. record (stamped now node) { links = node.links - 1 }) state

-- node i loses a link, and is removed if that was its last one (Lions on iput)
abbrev pub release : ℕ → ℕ → State → State
release now i state = if nat_le (node_at state.tree i).links 1 then remove_node i state else drop_link now i state

-- the bytes of a regular file; none for other nodes (manual section 5, file system)
abbrev pub body_of : Content → List ℕ
body_of (Body bytes) = bytes
body_of (Directory names) = []
body_of (Device type addresses) = []

-- the content of a new directory: `.` for itself and `..` for its parent (mkdir)
abbrev pub new_directory : ℕ → ℕ → Content
new_directory made d = Directory (insert (insert [] dot made) dot_dot d)

-- bytes are written into file i at an offset, and its times change by `timed` (Lions on writei)
abbrev pub bytes_written : (Node → Node) → ℕ → ℕ → List ℕ → State → State
bytes_written timed i offset bytes state =
    put_shape i (stored_shape state.tree.geometry.edition (state.shapes i) (touched offset (length bytes)))
    (change_node i (λ node. record (timed node) {
      content = Body (spliced (body_of node.content) offset bytes);
      size = max node.size (offset + length bytes);
    }) state)

-- bytes are written into file i at an offset, and its time of last modification becomes `now`; a write of no bytes changes nothing (Lions on writei)
abbrev pub after_write : State → ℕ → ℕ → List ℕ → ℕ → State
after_write state now offset [] i = state
after_write state now offset (byte ∷ bytes) i = bytes_written (modified now) i offset (byte ∷ bytes) state

-- file i is cut to its first `size` bytes and the blocks that they need; its times change by `timed` (Lions on itrunc; that bytes may stay is this
-- project's)
abbrev pub bytes_cut : (Node → Node) → ℕ → ℕ → State → State
bytes_cut timed i size state =
    put_shape i (cut_shape state.tree.geometry.edition (state.shapes i) size)
    (change_node i (λ node. record (timed node) { content = Body (take size (body_of node.content)); size = size }) state)

-- file i is cut to its first `size` bytes and the blocks that they need; its time of last modification becomes `now` (Lions on itrunc; that bytes may
-- stay is this project's)
abbrev pub after_truncate : State → ℕ → ℕ → ℕ → State
after_truncate state now size i = bytes_cut (modified now) i size state
