-- The rows of a listing.
use Rattle.std.specs.Prelude.{ℕ, ◌/◌, ◌%◌, ◌==◌, ◌||◌, ◌&&◌, Bool, if◌then◌else◌, List, codes, slice_index}
use Rattle.vol_layout.specs.Inode.{permissions_of}
use Rattle.vol_layout.specs.declared.i_node.Inode.{Inode}
use Rattle.vol_dir.specs.Tree.{Content, Body, Directory, Device, Node}
use Rattle.vol_listing.specs.declared.rows.Row.{Row}
use Rattle.vol_listing.specs.declared.rows.Sort.{Sort}
use Rattle.vol_listing.specs.declared.rows.Sort.TheVariants as sorts

-- the kind of a special file with this device, by its type, the highest four bits of its mode; of the seventh edition's multiplexor types, 070000 counts as a block and 030000 as a character special file (stat.h; the latter is this project's)
abbrev pub special_sort : ℕ → ℕ → Sort
special_sort type device = if type / 2 % 4 == 3 then sorts.Block device else sorts.Character device

-- the kind of a node with some content; a device is the low 16 bits of the first address (stat.h; ino.h)
abbrev pub sort_of : Content → Sort
sort_of (Body bytes) = sorts.Regular
sort_of (Directory names) = sorts.Directory
sort_of (Device type addresses) = special_sort type (slice_index addresses 0 % 65536)

-- the word for a special file, by its type: 030000 and 070000 are the multiplexor types, which the seventh edition alone has (stat.h)
abbrev pub special_word : ℕ → List ℕ
special_word type =
    if type == 3 || type == 7 then codes "multiplexor" else if type / 2 % 4 == 3 then codes "block" else codes "character"

-- the type of a special file, the highest four bits of its mode; 0 for anything else (stat.h)
abbrev pub type_of : Content → ℕ
type_of (Body bytes) = 0
type_of (Directory names) = 0
type_of (Device type addresses) = type

-- the row of node i (ls -l)
abbrev pub row_of : ℕ → Node → Row
row_of i node = record {
  number = i;
  sort = sort_of node.content;
  type_bits = type_of node.content;
  permissions = node.permissions;
  links = node.links;
  uid = node.uid;
  gid = node.gid;
  size = node.size;
  modified = node.modified;
}

-- the row of an i-node with this number, kind and type (ls -l)
abbrev pub row_with : ℕ → Inode → Sort → ℕ → Row
row_with i node sort type = record {
  number = i;
  sort = sort;
  type_bits = type;
  permissions = permissions_of node.mode.bits;
  links = node.links;
  uid = node.uid;
  gid = node.gid;
  size = node.size;
  modified = node.modified;
}

-- true if a row has neither links nor permissions nor a time, as that of an i-node that is free or lost: of what kind it is isn't known (this project)
abbrev pub is_blank : Row → Bool
is_blank row = row.links == 0 && (row.permissions == 0 && row.modified == 0)
