-- The fields of each part of a volume, in the order in which they are stored.
use Rattle.std.specs.Prelude.{ℕ, ◌-◌, ◌*◌, ◌/◌, min, List, [], ◌∷◌, slice_index_or}
use Rattle.vol_layout.specs.Edition.{constants}
use Rattle.vol_layout.specs.declared.edition.Edition.{Edition}
use Rattle.vol_layout.specs.declared.edition.Edition.TheVariants.{V6, V7}
use Rattle.vol_layout.specs.declared.geometry.Geometry.{Geometry}
use Rattle.vol_fields.specs.Runs.{one, array}
use Rattle.vol_fields.specs.declared.runs.Run.{Run}
use Rattle.vol_fields.specs.declared.names.Name.{Name}
use Rattle.vol_fields.specs.declared.names.Name.TheVariants as names
use Rattle.vol_fields.specs.declared.role.Role.{Role}
use Rattle.vol_fields.specs.declared.role.Role.TheVariants as roles

-- the parts of an image with this number of bytes; the index of an i-node is its i-number, that of a data block its number (manual section 5, file
-- system)
abbrev pub parts : Geometry → ℕ → List Run
parts g len =
    one names.Boot 0 512 ∷ one names.Super 1 512 ∷ array names.Node 1 g.last_inode (constants g.edition).inode_bytes
    ∷ array names.Data g.zone_start (g.zone_end - g.zone_start) 512 ∷ one names.Past g.zone_end (len - 512 * g.zone_end) ∷ []

-- the super-block (filsys.h)
abbrev pub super_runs : Edition → List Run
super_runs V6 =
    one names.ListSize 0 2 ∷ one names.BlockCount 0 2 ∷ one names.FreeCount 0 2 ∷ array names.Free 0 100 2
    ∷ one names.CacheCount 0 2 ∷ array names.Cached 0 100 2 ∷ one names.FreeLock 0 1 ∷ one names.InodeLock 0 1
    ∷ one names.Modified 0 1 ∷ one names.ReadOnly 0 1 ∷ one names.Time 0 4 ∷ one names.Rest 0 96 ∷ []
super_runs V7 =
    one names.ListSize 0 2 ∷ one names.BlockCount 0 4 ∷ one names.FreeCount 0 2 ∷ array names.Free 0 50 4
    ∷ one names.CacheCount 0 2 ∷ array names.Cached 0 100 2 ∷ one names.FreeLock 0 1 ∷ one names.InodeLock 0 1
    ∷ one names.Modified 0 1 ∷ one names.ReadOnly 0 1 ∷ one names.Time 0 4 ∷ one names.Rest 0 94 ∷ []

-- an i-node (ino.h)
abbrev pub node_runs : Edition → List Run
node_runs V6 =
    one names.Mode 0 2 ∷ one names.Links 0 1 ∷ one names.Uid 0 1 ∷ one names.Gid 0 1 ∷ one names.Size 0 3 ∷ array names.Address 0 8 2
    ∷ one names.Accessed 0 4 ∷ one names.Written 0 4 ∷ []
node_runs V7 =
    one names.Mode 0 2 ∷ one names.Links 0 2 ∷ one names.Uid 0 2 ∷ one names.Gid 0 2 ∷ one names.Size 0 4 ∷ array names.Address 0 13 3
    ∷ one names.Unused 0 1 ∷ one names.Accessed 0 4 ∷ one names.Written 0 4 ∷ one names.Changed 0 4 ∷ []

-- the number of bytes of logical block `logical` that belong to a file of this size (this project)
abbrev pub bytes_in : ℕ → ℕ → ℕ
bytes_in size logical = min 512 (size - 512 * logical)

-- the number of whole slots of logical block `logical` that belong to a directory of this size (manual section 5, directories)
abbrev pub slots_in : ℕ → ℕ → ℕ
slots_in size logical = bytes_in size logical / 16

-- a data block with this role: the slots of a directory, the bytes of a file, block numbers, or a link of the free list; otherwise its bytes have no
-- meaning (manual section 5, file system, directories; fblk.h)
abbrev pub data_runs : Edition → Role → List Run
data_runs edition (roles.Slots i logical size) =
    array names.Slot 0 (slots_in size logical) 16 ∷ one names.Slack 0 (512 - slots_in size logical * 16) ∷ []
data_runs edition (roles.Bytes i logical size) = one names.Bytes 0 (bytes_in size logical) ∷ one names.Slack 0 (512 - bytes_in size logical) ∷ []
data_runs V6 (roles.Entries i level logical) = array names.Entry 0 256 2 ∷ []
data_runs V7 (roles.Entries i level logical) = array names.Entry 0 128 4 ∷ []
data_runs V6 roles.Chain = one names.FreeCount 0 2 ∷ array names.Free 0 100 2 ∷ one names.Rest 0 310 ∷ []
data_runs V7 roles.Chain = one names.FreeCount 0 2 ∷ array names.Free 0 50 4 ∷ one names.Rest 0 310 ∷ []
data_runs edition role = one names.Data 0 512 ∷ []

-- the role of a block in a table of roles, by block number; a block that isn't in the table is outside (this project)
abbrev pub role_at : List Role → ℕ → Role
role_at table b = slice_index_or table b roles.Outside

-- the fields of a part with this name and number of bytes, and with this role if it is a data block (manual section 5, file system)
abbrev pub part_runs : Edition → Role → Name → ℕ → List Run
part_runs edition role names.Super bytes = super_runs edition
part_runs edition role names.Node bytes = node_runs edition
part_runs edition role names.Data bytes = data_runs edition role
part_runs edition role name bytes = one name 0 bytes ∷ []

-- the fields of a field with this name, index and number of bytes: a slot of a directory has an i-number and a name (manual section 5, directories)
abbrev pub inner_runs : Name → ℕ → ℕ → List Run
inner_runs names.Slot index bytes = one names.SlotInode index 2 ∷ one names.SlotName index 14 ∷ []
inner_runs name index bytes = one name index bytes ∷ []
