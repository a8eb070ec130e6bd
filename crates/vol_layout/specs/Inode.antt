-- The i-nodes of both layouts, field by field.
use Rattle.std.specs.Prelude.{◌≡◌, ℕ, ◌+◌, ◌-◌, ◌*◌, ◌/◌, ◌%◌, ◌<◌, ◌≤◌, Bool, false, ◌==◌, nat_lt, if◌then◌else◌, List, ◌∷◌, map, replicate, slice_index, Option, None, Some, IsSome}
use Rattle.std.specs.List.{range_with_len}
use Rattle.pdp_words.specs.Words.{word, long, addr3}
use Rattle.vol_layout.specs.Edition.{constants}
use Rattle.vol_layout.specs.declared.edition.Edition.{Edition}
use Rattle.vol_layout.specs.declared.edition.Edition.TheVariants.{V6, V7}
use Rattle.vol_layout.specs.declared.mode.Kind.{Kind}
use Rattle.vol_layout.specs.declared.mode.Kind.TheVariants as kinds
use Rattle.vol_layout.specs.declared.mode.Mode.{Mode}
use Rattle.vol_layout.specs.declared.mode.DeviceKind.{DeviceKind}
use Rattle.vol_layout.specs.declared.mode.DeviceKind.TheVariants as devices
use Rattle.vol_layout.specs.declared.mode.DeviceId.{DeviceId}
use Rattle.vol_layout.specs.declared.i_node.Inode.{Inode}

-- the kind of an allocated i-node with the type bits 060000 of a mode (manual section 5 of the sixth edition, file system)
abbrev pub kind_of_type_v6 : ℕ → Kind
kind_of_type_v6 type = if type == 0 then kinds.Regular else if type == 2 then kinds.Directory else kinds.Special

-- the kind of an i-node with the type bits 0170000 of a mode; both multiplexor types are special files (stat.h of the seventh edition)
abbrev pub kind_of_type_v7 : ℕ → Kind
kind_of_type_v7 type =
    if type == 8 then kinds.Regular else if type == 4 then kinds.Directory
    else if type == 2 then kinds.Special else if type == 6 then kinds.Special
    else if type == 3 then kinds.Special else if type == 7 then kinds.Special else kinds.Odd

-- the kind of an i-node with this mode: free if the mode is 0, odd if it isn't valid in the edition (manual section 5, file system; stat.h)
unfoldable pub kind_of : Edition → ℕ → Kind
kind_of V6 mode =
    if mode == 0 then kinds.Free else if nat_lt mode 32768 then kinds.Odd else kind_of_type_v6 (mode / 8192 % 4)
kind_of V7 mode = if mode == 0 then kinds.Free else kind_of_type_v7 (mode / 4096)

-- the permission bits of a mode, octal 7777, which include set-uid, set-gid and sticky (manual section 5, file system; stat.h)
abbrev pub permissions_of : ℕ → ℕ
permissions_of mode = mode % 4096

-- true if the type bits 0170000 of a special file's mode are those of a block special file, not of a character special file: both editions have octal
-- 060000 and 020000; of the multiplexor types of the seventh edition, 070000 counts as a block and 030000 as a character special file (stat.h; the
-- multiplexor types are this project's)
abbrev pub is_block_type : ℕ → Bool
is_block_type type = type / 2 % 4 == 3

-- true if the mode of a special file is that of a block special file, by the same bits (stat.h; the multiplexor types are this project's)
abbrev pub is_block : ℕ → Bool
is_block mode = mode / 8192 % 4 == 3

-- the type bits 0170000 of the mode of a new special file (manual section 5, file system; stat.h)
abbrev pub device_type : Edition → DeviceKind → ℕ
device_type V6 devices.Character = 10
device_type V6 devices.Block = 14
device_type V7 devices.Character = 2
device_type V7 devices.Block = 6

-- the number of a device: its major number in the high byte, its minor number in the low one (mknod, section 2 of the manual)
abbrev pub device_number : DeviceId → ℕ
device_number device = 256 * device.major + device.minor

-- the device number of a special file: the low 16 bits of its first address (ino.h; inode.h of the seventh edition)
abbrev pub device_of : Inode → ℕ
device_of node = slice_index node.addresses 0 % 65536

-- true if a mode has the large flag, octal 010000, which only the sixth edition has (manual section 5 of the sixth edition, file system)
abbrev pub is_large : Edition → ℕ → Bool
is_large V6 mode = mode / 4096 % 2 == 1
is_large V7 mode = false

-- a mode of the sixth edition with the large flag set or cleared (manual section 5 of the sixth edition, file system)
abbrev pub with_large : ℕ → Bool → ℕ
with_large mode large = mode % 4096 + mode / 8192 * 8192 + (if large then 4096 else 0)

-- a mode of an allocated i-node converted from the sixth edition to the seventh: the type and the permission bits stay, the large flag is cleared
-- (manual section 5 of the sixth edition, file system; stat.h of the seventh)
abbrev pub raised_mode : ℕ → ℕ
raised_mode mode = (if mode / 8192 % 4 == 0 then 32768 else mode / 8192 % 4 * 8192) + mode % 4096

-- the byte at which i-node i begins: i-node 1 is the first of the i-list, which begins at block 2 (manual section 5, file system)
abbrev pub inode_place : Edition → ℕ → ℕ
inode_place edition i = 1024 + (constants edition).inode_bytes * (i - 1)

-- address k of the i-node at byte `at`: 8 words in the sixth edition, 13 three-byte addresses in the seventh (ino.h)
abbrev pub address_at : Edition → List ℕ → ℕ → ℕ → ℕ
address_at V6 image at k = if nat_lt k 8 then word image (at + 8 + 2 * k) else 0
address_at V7 image at k = addr3 image (at + 12 + 3 * k)

-- all addresses of the i-node at byte `at`, as 13 values; the sixth edition has only the first 8 (manual section 5, file system; ino.h)
unfoldable pub addresses_at : Edition → List ℕ → ℕ → List ℕ
addresses_at edition image at = map (address_at edition image at) (range_with_len 0 13)

-- the size in the i-node at byte `at`: 24 bits in the sixth edition, the high 8 bits first; a long in the seventh (ino.h)
abbrev pub size_at : Edition → List ℕ → ℕ → ℕ
size_at V6 image at = 65536 * slice_index image (at + 5) + word image (at + 6)
size_at V7 image at = long image (at + 8)

-- the number of addresses of an i-node (manual section 5 of the sixth edition, file system; ino.h)
abbrev pub address_count : Edition → ℕ
address_count V6 = 8
address_count V7 = 13

-- the offset of the addresses in an i-node; the size comes right before them in both editions (ino.h)
abbrev pub address_offset : Edition → ℕ
address_offset V6 = 8
address_offset V7 = 12

-- the number of bytes of an address in an i-node (ino.h)
abbrev pub address_bytes : Edition → ℕ
address_bytes V6 = 2
address_bytes V7 = 3

-- the byte at which address k of i-node i begins (ino.h)
abbrev pub address_place : Edition → ℕ → ℕ → ℕ
address_place edition i k = inode_place edition i + address_offset edition + address_bytes edition * k

-- the number of bytes of the size in an i-node (ino.h)
abbrev pub size_bytes : Edition → ℕ
size_bytes V6 = 3
size_bytes V7 = 4

-- the byte at which the size of i-node i begins (ino.h)
abbrev pub size_place : Edition → ℕ → ℕ
size_place edition i = inode_place edition i + (address_offset edition - size_bytes edition)

-- the i-node at byte `at` (manual section 5 of the sixth edition, file system; ino.h of the seventh)
unfoldable pub inode_at : Edition → List ℕ → ℕ → Inode
inode_at V6 image at = record {
  mode = record { bits = word image at };
  links = slice_index image (at + 2);
  uid = slice_index image (at + 3);
  gid = slice_index image (at + 4);
  size = size_at V6 image at;
  addresses = addresses_at V6 image at;
  accessed = long image (at + 24);
  modified = long image (at + 28);
  changed = None;
}
inode_at V7 image at = record {
  mode = record { bits = word image at };
  links = word image (at + 2);
  uid = word image (at + 4);
  gid = word image (at + 6);
  size = size_at V7 image at;
  addresses = addresses_at V7 image at;
  accessed = long image (at + 52);
  modified = long image (at + 56);
  changed = Some (long image (at + 60));
}

-- i-node i of an image (manual section 5, file system)
abbrev pub inode_of : Edition → List ℕ → ℕ → Inode
inode_of edition image i = inode_at edition image (inode_place edition i)

-- the time of the last change of a new i-node, which the sixth edition doesn't store (ino.h)
abbrev pub first_change : Edition → ℕ → Option ℕ
first_change V6 now = None
first_change V7 now = Some now

-- a new i-node: its size is 0, it has no addresses, and all its times are `now` (Lions on maknode, ialloc)
abbrev pub new_inode : Edition → Mode → ℕ → ℕ → ℕ → ℕ → Inode
new_inode edition bits count uid gid now = record {
  mode = bits;
  links = count;
  uid = uid;
  gid = gid;
  size = 0;
  addresses = replicate 13 0;
  accessed = now;
  modified = now;
  changed = first_change edition now;
}

-- the i-node of a new special file with one link: its first address is the number of its device (mknod, section 2 of the manual; Lions on mknod)
abbrev pub special_inode : Edition → Mode → DeviceId → ℕ → ℕ → ℕ → Inode
special_inode edition bits device uid gid now =
    record (new_inode edition bits 1 uid gid now) { addresses = device_number device ∷ replicate 12 0 }

-- the values of an i-node fit the fields of the edition, and fields that the edition lacks are zero or None (manual section 5, file system; ino.h)
pub data IsStorable : Edition → Inode → Type 0 where
  in_v6 : {node : Inode} → node.links < 256 → node.uid < 256 → node.gid < 256 → node.size < 16777216
      → ((k : ℕ) → k < 8 → slice_index node.addresses k < 65536)
      → ((k : ℕ) → 8 ≤ k → slice_index node.addresses k ≡ 0)
      → node.changed ≡ None → IsStorable V6 node
  in_v7 : {node : Inode} → ((k : ℕ) → slice_index node.addresses k < 16777216) → IsSome node.changed → IsStorable V7 node

-- an allocated i-node converted from the sixth edition to the seventh, without blocks: the addresses are removed, the large flag is cleared, the last
-- change is at `now`, and the other fields stay (manual section 5 of the sixth edition, file system; ino.h of the seventh)
abbrev pub raised_inode : Inode → ℕ → Inode
raised_inode node now =
    record node { mode = record { bits = raised_mode node.mode.bits }; addresses = replicate 13 0; changed = Some now }
