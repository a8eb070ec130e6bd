-- Replies, field by field. (Linux, include/uapi/linux/fuse.h; numbers have the processor's byte order, here the low byte first.)
use Rattle.std.specs.Prelude.{ℕ, ◌+◌, ◌-◌, ◌%◌, ◌==◌, ◌^◌, if◌then◌else◌, List, ◌++◌, length}
use Rattle.std.proofs.Math.ListN.{replicate}
use Rattle.byteorder.specs.Endian.{little_bytes}
use Rattle.fuse_words.specs.declared.directory.EntryKind.{EntryKind}
use Rattle.fuse_words.specs.declared.directory.EntryKind.TheVariants.{Unknown, Character, Directory, Block, Regular}
use Rattle.fuse_words.specs.declared.reply.Attributes.{Attributes}
use Rattle.fuse_words.specs.declared.reply.EntryReply.{EntryReply}
use Rattle.fuse_words.specs.declared.reply.Settings.{Settings}
use Rattle.fuse_words.specs.declared.reply.Statistics.{Statistics}

-- the header of a successful reply, whose body has `size` bytes: len, error, unique (fuse_out_header, 16 bytes)
unfoldable pub reply_header : ℕ → ℕ → List ℕ
reply_header size unique = little_bytes 4 (16 + size) ++ little_bytes 4 0 ++ little_bytes 8 unique

-- an error as a negative 32-bit number; 0 is success (fuse_out_header)
abbrev pub negative : ℕ → ℕ
negative errno = if errno == 0 then 0 else 2 ^ 32 - errno

-- a reply without a body: len, error, unique (fuse_out_header)
abbrev pub status_message : ℕ → ℕ → List ℕ
status_message unique errno = little_bytes 4 16 ++ little_bytes 4 (negative errno) ++ little_bytes 8 unique

-- the reply to INIT (fuse_init_out, 64 bytes)
unfoldable pub init_message : ℕ → Settings → List ℕ
init_message unique settings =
    reply_header 64 unique
    ++ little_bytes 4 7  -- major
    ++ little_bytes 4 31  -- minor
    ++ little_bytes 4 settings.max_readahead
    ++ little_bytes 4 settings.flags
    ++ little_bytes 2 settings.max_background
    ++ little_bytes 2 settings.congestion_threshold
    ++ little_bytes 4 settings.max_write
    ++ little_bytes 4 settings.time_granularity
    ++ little_bytes 2 settings.max_pages
    ++ little_bytes 2 0  -- map_alignment
    ++ replicate 32 0  -- unused

-- bytes followed by the attributes of a node (fuse_attr, 88 bytes)
unfoldable pub with_attributes : List ℕ → Attributes → List ℕ
with_attributes front attributes =
    front
    ++ little_bytes 8 attributes.ino
    ++ little_bytes 8 attributes.size
    ++ little_bytes 8 attributes.blocks
    ++ little_bytes 8 attributes.accessed
    ++ little_bytes 8 attributes.modified
    ++ little_bytes 8 attributes.changed
    ++ little_bytes 4 0  -- atimensec
    ++ little_bytes 4 0  -- mtimensec
    ++ little_bytes 4 0  -- ctimensec
    ++ little_bytes 4 attributes.mode
    ++ little_bytes 4 attributes.links
    ++ little_bytes 4 attributes.uid
    ++ little_bytes 4 attributes.gid
    ++ little_bytes 4 attributes.rdev
    ++ little_bytes 4 attributes.block_size
    ++ little_bytes 4 0  -- flags

-- the attributes in the reply for a missing name (this project)
abbrev pub no_attributes : Attributes
no_attributes = record {
  ino = 0;
  size = 0;
  blocks = 0;
  accessed = 0;
  modified = 0;
  changed = 0;
  mode = 0;
  links = 0;
  uid = 0;
  gid = 0;
  rdev = 0;
  block_size = 0;
}

-- the reply to LOOKUP, MKNOD, MKDIR and LINK (fuse_entry_out, 128 bytes)
unfoldable pub entry_message : ℕ → EntryReply → List ℕ
entry_message unique entry =
    with_attributes
    (reply_header 128 unique
    ++ little_bytes 8 entry.node
    ++ little_bytes 8 entry.generation
    ++ little_bytes 8 entry.name_seconds
    ++ little_bytes 8 entry.attribute_seconds
    ++ little_bytes 4 0  -- entry_valid_nsec
    ++ little_bytes 4 0)  -- attr_valid_nsec
    entry.attributes

-- the reply to GETATTR and SETATTR (fuse_attr_out, 104 bytes)
unfoldable pub attributes_message : ℕ → ℕ → Attributes → List ℕ
attributes_message unique seconds attributes =
    with_attributes
    (reply_header 104 unique
    ++ little_bytes 8 seconds
    ++ little_bytes 4 0  -- attr_valid_nsec
    ++ little_bytes 4 0)  -- dummy
    attributes

-- the reply to OPEN and OPENDIR (fuse_open_out, 16 bytes)
unfoldable pub open_message : ℕ → ℕ → ℕ → List ℕ
open_message unique handle flags =
    reply_header 16 unique
    ++ little_bytes 8 handle
    ++ little_bytes 4 flags
    ++ little_bytes 4 0  -- padding

-- the reply to READ and READDIR (fuse_out_header)
unfoldable pub data_message : ℕ → List ℕ → List ℕ
data_message unique bytes = reply_header (length bytes) unique ++ bytes

-- the reply to WRITE (fuse_write_out, 8 bytes)
unfoldable pub written_message : ℕ → ℕ → List ℕ
written_message unique size =
    reply_header 8 unique
    ++ little_bytes 4 size
    ++ little_bytes 4 0  -- padding

-- the reply to STATFS (fuse_kstatfs, 80 bytes)
unfoldable pub statfs_message : ℕ → Statistics → List ℕ
statfs_message unique sizes =
    reply_header 80 unique
    ++ little_bytes 8 sizes.blocks
    ++ little_bytes 8 sizes.free_blocks
    ++ little_bytes 8 sizes.available_blocks
    ++ little_bytes 8 sizes.inodes
    ++ little_bytes 8 sizes.free_inodes
    ++ little_bytes 4 sizes.block_size
    ++ little_bytes 4 sizes.name_length
    ++ little_bytes 4 sizes.fragment_size
    ++ replicate 28 0  -- padding, spare

-- an entry's kind: bits 12 to 15 of its mode (fuse_dirent; DT_UNKNOWN, DT_CHR, DT_DIR, DT_BLK, DT_REG of dirent.h)
abbrev pub kind_number : EntryKind → ℕ
kind_number Unknown = 0
kind_number Character = 2
kind_number Directory = 4
kind_number Block = 6
kind_number Regular = 8

-- the number of zeros that fill `count` bytes up to a multiple of 8 (FUSE_REC_ALIGN)
abbrev pub padding : ℕ → ℕ
padding count = (8 - count % 8) % 8

-- an entry of a directory: ino, off, namelen, type, name, padding (fuse_dirent, FUSE_DIRENT_SIZE)
unfoldable pub dirent_bytes : ℕ → ℕ → EntryKind → List ℕ → List ℕ
dirent_bytes ino next_offset kind name =
    little_bytes 8 ino
    ++ little_bytes 8 next_offset
    ++ little_bytes 4 (length name)
    ++ little_bytes 4 (kind_number kind)
    ++ name
    ++ replicate (padding (length name)) 0

-- the size of an entry (FUSE_DIRENT_SIZE)
abbrev pub dirent_size : List ℕ → ℕ
dirent_size name = 24 + length name + padding (length name)
