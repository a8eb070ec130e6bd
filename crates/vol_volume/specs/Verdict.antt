-- The refusal of a call, if any. The checks run in a fixed order, and the first that fails determines the refusal.
use Rattle.std.specs.Prelude.{ℕ, ◌+◌, ◌==◌, ◌&&◌, ◌||◌, Bool, true, false, not, nat_lt, nat_le, if◌then◌else◌, List, [], ◌∷◌, ◌++◌, length, Option, None, Some, is_none, is_some, Result, Ok, Err}
use Rattle.std.specs.List.{list_any, range_with_len}
use Rattle.vol_layout.specs.Edition.{constants}
use Rattle.vol_file.specs.Shape.{touched}
use Rattle.vol_dir.specs.Access.{grants, may_write}
use Rattle.vol_dir.specs.Names.{get, is_dots}
use Rattle.vol_dir.specs.Tree.{Content, Body, Directory, Device, Node, Tree, State}
use Rattle.vol_dir.specs.Walk.{root, has_zero, is_directory, walk, walk_parent}
use Rattle.vol_layout.specs.Ids.{is_bad_id}
use Rattle.vol_change.specs.Nodes.{node_at, names_at, number_of_name, size_with_entry}
use Rattle.vol_change.specs.Shapes.{need_in}
use Rattle.vol_change.specs.Ready.{entry_need, free_in}
use Rattle.vol_dir.specs.declared.cred.Cred.{Cred}
use Rattle.vol_dir.specs.declared.refusal.Refusal.{Refusal}
use Rattle.vol_dir.specs.declared.refusal.Refusal.TheVariants as refusals
use Rattle.vol_change.specs.declared.new_nodes.NewFile.{NewFile}
use Rattle.vol_change.specs.declared.new_nodes.NewFile.TheVariants.{Regular, Special}
use Rattle.vol_volume.specs.declared.calls.Call.{Call}
use Rattle.vol_volume.specs.declared.calls.Call.TheVariants.{Create, Mkdir, Link, Unlink, Rmdir, Write, Truncate, Chmod, Chown, Times, Mknod}

-- the first refusal whose test holds, in a list of tests with their refusals (this project)
abbrev pub first_of : List (Bool × Refusal) → Option Refusal
first_of [] = None
first_of (test ∷ tests) = if test.0 then Some test.1 else first_of tests

-- true if a directory has this name (Lions on namei)
abbrev pub has_name : Tree → ℕ → List ℕ → Bool
has_name tree d name = is_some (get (names_at tree d) name)

-- true if a directory has entries other than `.` and `..` (rmdir)
abbrev pub has_others : Tree → ℕ → Bool
has_others tree d = list_any (λ (entry : List ℕ × ℕ). not (is_dots entry.0)) (names_at tree d)

-- true if the content belongs to a special file (manual section 5, file system)
abbrev pub is_device : Content → Bool
is_device (Device type addresses) = true
is_device (Body bytes) = false
is_device (Directory names) = false

-- true if a new node may get this i-number: it is above the root's, at most the last, and free (Lions on ialloc)
abbrev pub is_free_number : Tree → ℕ → Bool
is_free_number tree i = nat_lt (root tree) i && (nat_le i tree.geometry.last_inode && is_none (tree.nodes i))

-- true if there is an i-number for a new node (Lions on ialloc)
abbrev pub has_free_number : Tree → Bool
has_free_number tree = list_any (is_free_number tree) (range_with_len 1 tree.geometry.last_inode)

-- true if a size is above the greatest size of a file (manual section 5, file system)
abbrev pub is_too_great : Tree → ℕ → Bool
is_too_great tree size = nat_lt (constants tree.geometry.edition).greatest size

-- true if a node's link count is at the limit (this project)
abbrev pub is_full : Tree → Node → Bool
is_full tree node = nat_le (constants tree.geometry.edition).link_limit node.links

-- the number of blocks needed to write some bytes into file i at an offset (Lions on bmap)
abbrev pub write_need : State → ℕ → ℕ → ℕ → ℕ
write_need state i offset len = need_in state.tree.geometry.edition (state.shapes i) (touched offset len)

-- true if more blocks are needed than are free (Lions on alloc)
abbrev pub is_above_free : State → ℕ → Bool
is_above_free state needed = nat_lt (free_in state) needed

-- the first checks of every call and query, of its user and group numbers and for zero bytes in its paths, followed by other checks (this project)
abbrev pub then_others : Tree → Cred → List (List ℕ) → Option Refusal → Option Refusal
then_others tree cred paths others =
    if is_bad_id tree.geometry.edition cred.uid cred.gid then Some refusals.BadId
    else if list_any has_zero paths then Some refusals.Invalid else others

-- the refusal of a walk, else the refusal of the checks of the node at its end (Lions on namei)
abbrev pub of_node : Result ℕ Refusal → (ℕ → Option Refusal) → Option Refusal
of_node (Err refusal) others = Some refusal
of_node (Ok i) others = others i

-- the refusal `bare` of a path without components, else the refusal of the walk to its parent, else the refusal of the checks of the parent and the
-- last name (Lions on namei)
abbrev pub of_parent : Option (Result (ℕ × List ℕ) Refusal) → Refusal → (ℕ → List ℕ → List (Bool × Refusal)) → Option Refusal
of_parent None bare tests = Some bare
of_parent (Some (Err refusal)) bare tests = Some refusal
of_parent (Some (Ok found)) bare tests = first_of (tests found.0 found.1)

-- the checks of the parent d and the name of a new file (Lions on creat)
abbrev pub create_tests : State → Cred → ℕ → List ℕ → List (Bool × Refusal)
create_tests state cred d name =
    (has_name state.tree d name, refusals.Exists)
    ∷ (not (grants may_write cred (node_at state.tree d)), refusals.Access)
    ∷ (is_too_great state.tree (size_with_entry state d), refusals.TooBig)
    ∷ (not (has_free_number state.tree), refusals.NoInode)
    ∷ (is_above_free state (entry_need state d), refusals.NoSpace)
    ∷ []

-- the checks of the parent d and the name of a new file; only user 0 may make a special file (Lions on creat; mknod, section 2 of the manual)
abbrev pub file_tests : NewFile → State → Cred → ℕ → List ℕ → List (Bool × Refusal)
file_tests Regular = create_tests
file_tests (Special device) = λ state cred d name. (not (cred.uid == 0), refusals.NotOwner) ∷ create_tests state cred d name

-- the checks of the parent d and the name of a new directory, which adds a link to its parent and needs a block of its own (mkdir)
abbrev pub mkdir_tests : State → Cred → ℕ → List ℕ → List (Bool × Refusal)
mkdir_tests state cred d name =
    (has_name state.tree d name, refusals.Exists)
    ∷ (not (grants may_write cred (node_at state.tree d)), refusals.Access)
    ∷ (is_full state.tree (node_at state.tree d), refusals.TooManyLinks)
    ∷ (is_too_great state.tree (size_with_entry state d), refusals.TooBig)
    ∷ (not (has_free_number state.tree), refusals.NoInode)
    ∷ (is_above_free state (entry_need state d + 1), refusals.NoSpace)
    ∷ []

-- the checks of the parent d and another name of node i (Lions on link)
abbrev pub link_tests : State → Cred → ℕ → ℕ → List ℕ → List (Bool × Refusal)
link_tests state cred i d name =
    (has_name state.tree d name, refusals.Exists)
    ∷ (not (grants may_write cred (node_at state.tree d)), refusals.Access)
    ∷ (is_full state.tree (node_at state.tree i), refusals.TooManyLinks)
    ∷ (is_too_great state.tree (size_with_entry state d), refusals.TooBig)
    ∷ (is_above_free state (entry_need state d), refusals.NoSpace)
    ∷ []

-- the checks of the parent d and a name to be removed (Lions on unlink)
abbrev pub unlink_tests : State → Cred → ℕ → List ℕ → List (Bool × Refusal)
unlink_tests state cred d name =
    (not (has_name state.tree d name), refusals.NoEntry)
    ∷ (not (grants may_write cred (node_at state.tree d)), refusals.Access)
    ∷ (is_directory (node_at state.tree (number_of_name state.tree d name)), refusals.IsDirectory)
    ∷ []

-- the checks of the parent d and the name of a directory to be removed (rmdir)
abbrev pub rmdir_tests : State → Cred → ℕ → List ℕ → List (Bool × Refusal)
rmdir_tests state cred d name =
    (is_dots name, refusals.Invalid)
    ∷ (not (has_name state.tree d name), refusals.NoEntry)
    ∷ (not (grants may_write cred (node_at state.tree d)), refusals.Access)
    ∷ (not (is_directory (node_at state.tree (number_of_name state.tree d name))), refusals.NotDirectory)
    ∷ (has_others state.tree (number_of_name state.tree d name), refusals.NotEmpty)
    ∷ []

-- the checks of a node before its bytes are read or changed: it is a regular file that grants an access (Lions on access)
abbrev pub body_tests : Tree → ℕ → Cred → ℕ → List (Bool × Refusal)
body_tests tree right cred i =
    (is_directory (node_at tree i), refusals.IsDirectory)
    ∷ (is_device (node_at tree i).content, refusals.NotRegular)
    ∷ (not (grants right cred (node_at tree i)), refusals.Access)
    ∷ []

-- the checks of a file before bytes are written to it at an offset (Lions on writei)
abbrev pub write_tests : State → Cred → ℕ → ℕ → ℕ → List (Bool × Refusal)
write_tests state cred offset len i =
    body_tests state.tree may_write cred i
    ++ (is_too_great state.tree (offset + len), refusals.TooBig)
    ∷ (is_above_free state (write_need state i offset len), refusals.NoSpace)
    ∷ []

-- the checks of a file before it is cut to its first `size` bytes (Lions on itrunc; that bytes may stay is this project's)
abbrev pub truncate_tests : Tree → Cred → ℕ → ℕ → List (Bool × Refusal)
truncate_tests tree cred size i =
    body_tests tree may_write cred i ++ (nat_lt (node_at tree i).size size, refusals.Invalid) ∷ []

-- the checks of a link whose source was found: the source isn't a directory, and then the checks of the parent of the new name (Lions on link)
abbrev pub link_refusal : State → Cred → List ℕ → ℕ → Option Refusal
link_refusal state cred target i =
    if is_directory (node_at state.tree i) then Some refusals.IsDirectory
    else of_parent (walk_parent state.tree cred target) refusals.Exists (link_tests state cred i)

-- true if a user may change a node as its owner: user 0 and the owner may (Lions on owner)
abbrev pub is_owner : Cred → Node → Bool
is_owner cred node = cred.uid == 0 || cred.uid == node.uid

-- the checks of a node before its permission bits or times are changed (chmod and utime, section 2 of the manual)
abbrev pub owner_tests : Tree → Cred → ℕ → List (Bool × Refusal)
owner_tests tree cred i = (not (is_owner cred (node_at tree i)), refusals.NotOwner) ∷ []

-- the check of the user before the owner of a node is changed (chown, section 2 of the manual)
abbrev pub chown_tests : Cred → List (Bool × Refusal)
chown_tests cred = (not (cred.uid == 0), refusals.NotOwner) ∷ []

-- the call that creates a file: Create of a regular file, Mknod of a special file (this project)
abbrev pub creation : NewFile → Cred → ℕ → List ℕ → ℕ → Call
creation Regular cred now path perm = Create cred now path perm
creation (Special device) cred now path perm = Mknod cred now path perm device

-- the first refusal of a call that applies, other than NoMemory (this project)
unfoldable pub verdict : State → Call → Option Refusal
verdict state (Create cred now path perm) =
    then_others state.tree cred (path ∷ [])
    (of_parent (walk_parent state.tree cred path) refusals.Exists (create_tests state cred))
verdict state (Mkdir cred now path perm) =
    then_others state.tree cred (path ∷ [])
    (of_parent (walk_parent state.tree cred path) refusals.Exists (mkdir_tests state cred))
verdict state (Link cred now source target) =
    then_others state.tree cred (source ∷ target ∷ [])
    (of_node (walk state.tree cred source) (link_refusal state cred target))
verdict state (Unlink cred now path) =
    then_others state.tree cred (path ∷ [])
    (of_parent (walk_parent state.tree cred path) refusals.IsDirectory (unlink_tests state cred))
verdict state (Rmdir cred now path) =
    then_others state.tree cred (path ∷ [])
    (of_parent (walk_parent state.tree cred path) refusals.Invalid (rmdir_tests state cred))
verdict state (Write cred now path offset bytes) =
    then_others state.tree cred (path ∷ [])
    (of_node (walk state.tree cred path) (λ i. first_of (write_tests state cred offset (length bytes) i)))
verdict state (Truncate cred now path size) =
    then_others state.tree cred (path ∷ [])
    (of_node (walk state.tree cred path) (λ i. first_of (truncate_tests state.tree cred size i)))
verdict state (Chmod cred now path perm) =
    then_others state.tree cred (path ∷ [])
    (of_node (walk state.tree cred path) (λ i. first_of (owner_tests state.tree cred i)))
verdict state (Chown cred now path uid gid) =
    if is_bad_id state.tree.geometry.edition uid gid then Some refusals.BadId
    else then_others state.tree cred (path ∷ []) (of_node (walk state.tree cred path) (λ i. first_of (chown_tests cred)))
verdict state (Times cred now path atime mtime) =
    then_others state.tree cred (path ∷ [])
    (of_node (walk state.tree cred path) (λ i. first_of (owner_tests state.tree cred i)))
verdict state (Mknod cred now path perm device) =
    then_others state.tree cred (path ∷ [])
    (of_parent (walk_parent state.tree cred path) refusals.Exists (file_tests (Special device) state cred))
