-- The attributes of a node, in the form that the kernel needs.
use Rattle.std.specs.Prelude.{ℕ, ◌+◌, ◌*◌, ◌/◌, if◌then◌else◌, Option, None, Some, Result, unwrap_or}
use Rattle.std.specs.Option.{option_map, option_map_or, ok_or}
use Rattle.fuse_words.specs.declared.directory.EntryKind.{EntryKind}
use Rattle.fuse_words.specs.declared.directory.EntryKind.TheVariants as entries
use Rattle.fuse_words.specs.declared.reply.Attributes.{Attributes}
use Rattle.vol_layout.specs.declared.mode.Kind.{Kind}
use Rattle.vol_layout.specs.declared.mode.Kind.TheVariants as kinds
use Rattle.vol_dir.specs.Tree.{Tree}
use Rattle.vol_volume.specs.declared.queries.Stat.{Stat}
use Rattle.vol_serve.specs.Nodes.{stat_in, special_in}
use Rattle.vol_serve.specs.declared.nodes.fault.NodeFault.{NodeFault}
use Rattle.vol_serve.specs.declared.nodes.fault.NodeFault.TheVariants as faults
use Rattle.vol_serve.specs.declared.nodes.stats.SpecialFile.{SpecialFile}

-- the type bits of a special file: a block special file's or a character special file's (Linux, stat.h: S_IFBLK, S_IFCHR)
abbrev pub special_type : Option SpecialFile → ℕ
special_type None = 8192
special_type (Some file) = if file.is_block then 24576 else 8192

-- the type bits of a node (Linux, stat.h: S_IFREG, S_IFDIR)
abbrev pub type_of : Kind → Option SpecialFile → ℕ
type_of kinds.Regular special = 32768
type_of kinds.Directory special = 16384
type_of _ special = special_type special

-- the number of a special file's device, whose major and minor number are below 256 (Linux, kdev_t.h: new_encode_dev)
abbrev pub device_of : Option SpecialFile → ℕ
device_of None = 0
device_of (Some file) = 256 * file.major + file.minor

-- the attributes of a node: its size in 512-byte blocks includes holes; if its i-node has no time of change, this is the time of the last change of
-- its contents (fuse_attr)
abbrev pub attributes_of : Stat → Option SpecialFile → Attributes
attributes_of stat special = record {
  ino = stat.number;
  size = stat.size;
  blocks = (stat.size + 511) / 512;
  accessed = stat.accessed;
  modified = stat.modified;
  changed = unwrap_or stat.changed stat.modified;
  mode = type_of stat.kind special + stat.permissions;
  links = stat.links;
  uid = stat.uid;
  gid = stat.gid;
  rdev = device_of special;
  block_size = 512;
}

-- the attributes of node i, if there is one (fuse_attr)
abbrev pub attributes_in : Tree → ℕ → Result Attributes NodeFault
attributes_in tree i = ok_or (option_map (λ stat. attributes_of stat (special_in tree i)) (stat_in tree i)) faults.Stale

-- the kind of a special file in a directory entry (dirent.h: DT_BLK, DT_CHR)
abbrev pub special_entry : Option SpecialFile → EntryKind
special_entry None = entries.Character
special_entry (Some file) = if file.is_block then entries.Block else entries.Character

-- the kind of a node in a directory entry (dirent.h: DT_REG, DT_DIR)
abbrev pub entry_of : Kind → Option SpecialFile → EntryKind
entry_of kinds.Regular special = entries.Regular
entry_of kinds.Directory special = entries.Directory
entry_of _ special = special_entry special

-- the kind of node i in a directory entry, unknown if there is no node with this number (dirent.h: DT_UNKNOWN)
abbrev pub entry_kind_in : Tree → ℕ → EntryKind
entry_kind_in tree i = option_map_or (λ (stat : Stat). entry_of stat.kind (special_in tree i)) (stat_in tree i) entries.Unknown
