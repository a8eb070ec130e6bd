-- The effect of each call on a state, once its paths are walked.
use Rattle.std.specs.Prelude.{ℕ, List, Some}
use Rattle.vol_dir.specs.Tree.{State, no_shape}
use Rattle.vol_change.specs.Edits.{change_node, with_permission_bits, with_owner, with_times, put_node, put_shape, remove_node, new_content, new_node, add_entry, remove_entry, add_link, drop_link, release, new_directory}
use Rattle.vol_change.specs.Nodes.{number_of_name}
use Rattle.vol_change.specs.Shapes.{new_directory_shape}
use Rattle.vol_dir.specs.declared.cred.Cred.{Cred}
use Rattle.vol_change.specs.declared.new_nodes.NewFile.{NewFile}

-- a regular or special file is created, with i-number `made` and a name in d (Lions on maknode; mknod, section 2 of the manual)
abbrev pub after_create : State → Cred → ℕ → ℕ → NewFile → ℕ → ℕ → List ℕ → State
after_create state cred now perm file made d name =
    add_entry now d name made
    (put_shape made no_shape
    (put_node made (Some (new_node state.tree.geometry.edition cred now perm (new_content state.tree.geometry.edition file) 1 0)) state))

-- a directory is created, with i-number `made` and a name in d; its `..` adds a link to d (mkdir)
abbrev pub after_mkdir : State → Cred → ℕ → ℕ → ℕ → ℕ → List ℕ → State
after_mkdir state cred now perm made d name =
    add_link now d (add_entry now d name made
    (put_shape made (new_directory_shape state.tree.geometry.edition)
    (put_node made (Some (new_node state.tree.geometry.edition cred now perm (new_directory made d) 2 32)) state)))

-- node i gets another name, in d (Lions on link)
abbrev pub after_link : State → ℕ → ℕ → ℕ → List ℕ → State
after_link state now i d name = add_entry now d name i (add_link now i state)

-- a name in d is removed, and the node too if that was its last name (Lions on unlink)
abbrev pub after_unlink : State → ℕ → ℕ → List ℕ → State
after_unlink state now d name = release now (number_of_name state.tree d name) (remove_entry now d name state)

-- a directory is removed, with its name in d and the link to d from its `..` (rmdir)
abbrev pub after_rmdir : State → ℕ → ℕ → List ℕ → State
after_rmdir state now d name =
    remove_node (number_of_name state.tree d name) (drop_link now d (remove_entry now d name state))

-- node i gets new permission bits (chmod, section 2 of the manual)
abbrev pub after_chmod : State → ℕ → ℕ → ℕ → State
after_chmod state now perm i = change_node i (with_permission_bits now perm) state

-- node i gets a new user and group (chown, section 2 of the manual)
abbrev pub after_chown : State → ℕ → ℕ → ℕ → ℕ → State
after_chown state now uid gid i = change_node i (with_owner now uid gid) state

-- node i gets new times of last access and last modification (utime, section 2 of the manual)
abbrev pub after_utime : State → ℕ → ℕ → ℕ → ℕ → State
after_utime state now accessed modified i = change_node i (with_times now accessed modified) state
