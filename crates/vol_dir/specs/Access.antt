-- Permissions of nodes.
use Rattle.std.specs.Prelude.{ℕ, ◌*◌, ◌/◌, ◌%◌, ◌==◌, Bool, true, if◌then◌else◌}
use Rattle.std.specs.Prelude.{List}
use Rattle.vol_layout.specs.Inode.{inode_of, permissions_of}
use Rattle.vol_dir.specs.Tree.{Node}
use Rattle.vol_layout.specs.declared.geometry.Geometry.{Geometry}
use Rattle.vol_dir.specs.declared.access.Access.{Access}
use Rattle.vol_dir.specs.declared.access.Access.TheVariants.{Read, Write, Execute}
use Rattle.vol_dir.specs.declared.cred.Cred.{Cred}

-- user 0 of group 0, which passes every permission test (Lions, suser)
abbrev pub user : Cred
user = record { uid = 0; gid = 0 }

-- the permission bit for reading, in a group of three (manual section 5, file system)
abbrev pub may_read : ℕ
may_read = 4

-- the permission bit for writing (manual section 5, file system)
abbrev pub may_write : ℕ
may_write = 2

-- the permission bit for executing a file, and for searching a directory (manual section 5, file system)
abbrev pub may_execute : ℕ
may_execute = 1

-- the permission bit for an access (manual section 5, file system)
abbrev pub bit_of : Access → ℕ
bit_of Read = may_read
bit_of Write = may_write
bit_of Execute = may_execute

-- true if the permissions have the bit with this value (manual section 5, file system)
abbrev pub has_bit : ℕ → ℕ → Bool
has_bit permissions value = permissions / value % 2 == 1

-- true if permissions grant an access to a user: the first three bits apply to the owner, the next three to the group, and the last three to all
-- others; user 0 gets every access (Lions on access)
abbrev pub grants_by : ℕ → Cred → ℕ → ℕ → ℕ → Bool
grants_by bit cred permissions uid gid =
    if cred.uid == 0 then true
    else if cred.uid == uid then has_bit permissions (64 * bit)
    else if cred.gid == gid then has_bit permissions (8 * bit)
    else has_bit permissions bit

-- true if a node grants an access to a user (Lions on access)
abbrev pub grants : ℕ → Cred → Node → Bool
grants bit cred node = grants_by bit cred node.permissions node.uid node.gid

-- true if i-node i grants an access to a user, by its permissions, owner and group (Lions on access)
abbrev pub grants_at : Geometry → List ℕ → ℕ → ℕ → Cred → Bool
grants_at geometry image i bit cred =
    let node = inode_of geometry.edition image i in grants_by bit cred (permissions_of node.mode.bits) node.uid node.gid
