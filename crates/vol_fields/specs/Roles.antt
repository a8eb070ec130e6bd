-- The role of each block of a volume.
use Rattle.std.specs.Prelude.{ℕ, ◌≤◌, ◌==◌, nat_lt, if◌then◌else◌, List, Option, None, Some}
use Rattle.std.specs.List.{range_with_len}
use Rattle.vol_layout.specs.BlockPointers.{mode_of}
use Rattle.vol_layout.specs.Inode.{inode_place, kind_of, size_at}
use Rattle.vol_layout.specs.declared.geometry.Geometry.{Geometry}
use Rattle.vol_layout.specs.declared.mode.Kind.{Kind}
use Rattle.vol_layout.specs.declared.mode.Kind.TheVariants as kinds
use Rattle.vol_inspect.specs.Holders.{first_of}
use Rattle.vol_inspect.specs.Uses.{use_of}
use Rattle.vol_inspect.specs.declared.holders.Holder.{Holder}
use Rattle.vol_inspect.specs.declared.uses.Use.{Use}
use Rattle.vol_inspect.specs.declared.uses.Use.TheVariants as uses
use Rattle.vol_fields.specs.declared.role.Role.{Role}
use Rattle.vol_fields.specs.declared.role.Role.TheVariants as roles

-- the role of a block with data of an i-node of this kind: slots of a directory, else bytes (manual section 5, file system)
abbrev pub data_role : Kind → ℕ → ℕ → ℕ → Role
data_role kinds.Directory i logical size = roles.Slots i logical size
data_role kind i logical size = roles.Bytes i logical size

-- the role of the block to which a position in the block map of an i-node points (Lions on bmap)
abbrev pub position_role : Geometry → List ℕ → Holder → Role
position_role g image h =
    if h.level == 0
    then data_role (kind_of g.edition (mode_of g image h.ino)) h.ino h.logical (size_at g.edition image (inode_place g.edition h.ino))
    else roles.Entries h.ino h.level h.logical

-- the role of a block that an i-node uses, by the first position that points to it (this project)
abbrev pub held_role : Geometry → List ℕ → Option Holder → Role
held_role g image None = roles.Lost
held_role g image (Some h) = position_role g image h

-- the role of a block with this use, if `holder` is the first position that points to it (this project)
abbrev pub role_by : Geometry → List ℕ → Use → Option Holder → Role
role_by g image uses.Boot holder = roles.System
role_by g image uses.SuperBlock holder = roles.System
role_by g image uses.IList holder = roles.System
role_by g image uses.Free holder = roles.Free
role_by g image uses.Chain holder = roles.Chain
role_by g image uses.Lost holder = roles.Lost
role_by g image uses.Twice holder = roles.Twice
role_by g image uses.Unreadable holder = roles.Lost
role_by g image uses.Unknown holder = roles.Lost
role_by g image uses.Directory holder = held_role g image holder
role_by g image uses.File holder = held_role g image holder
role_by g image uses.Pointer holder = held_role g image holder

-- the role of block b: that of its use, with the i-node and the position that point to it (manual section 5, file system; icheck)
unfoldable pub role_of : Geometry → List ℕ → ℕ → Role
role_of g image b =
    if nat_lt b g.zone_start then roles.System else role_by g image (use_of g image b) (first_of g image b (range_with_len 1 g.last_inode))

-- the i-number of a position is that of an i-node of the volume (this project)
abbrev pub IsNodes : Geometry → Option Holder → Type 0
IsNodes g None = Unit
IsNodes g (Some h) = (1 ≤ h.ino) × (h.ino ≤ g.last_inode)
