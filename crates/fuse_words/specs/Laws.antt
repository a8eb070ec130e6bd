-- Statements on requests laid out in the order of fuse.h, and on the lengths of replies.
use Rattle.std.specs.Prelude.{◌≡◌, ℕ, ◌+◌, ◌%◌, ◌^◌, ◌<◌, ◌≤◌, List, [], ◌∷◌, ◌++◌, length, All, Ok, ⊤}
use Rattle.byteorder.specs.Endian.{little_bytes}
use Rattle.fuse_words.specs.Replies.{init_message, entry_message, attributes_message, open_message, data_message, written_message, statfs_message, status_message, dirent_bytes, dirent_size}
use Rattle.fuse_words.specs.Requests.{changes_by, request_of}
use Rattle.fuse_words.specs.declared.attribute_changes.AttributeChanges.{AttributeChanges}
use Rattle.fuse_words.specs.declared.directory.EntryKind.{EntryKind}
use Rattle.fuse_words.specs.declared.operation.Operation.{Operation}
use Rattle.fuse_words.specs.declared.operation.Operation.TheVariants.{Init, Destroy, Lookup, Forget, BatchForget, GetAttr, SetAttr, MkNod, MkDir, Unlink, RmDir, Rename, Rename2, Link, Open, Read, Write, Release, StatFs, OpenDir, ReadDir, ReleaseDir, Fsync, FsyncDir, Flush, Interrupt, Other}
use Rattle.fuse_words.specs.declared.reply.Attributes.{Attributes}
use Rattle.fuse_words.specs.declared.reply.EntryReply.{EntryReply}
use Rattle.fuse_words.specs.declared.reply.Settings.{Settings}
use Rattle.fuse_words.specs.declared.reply.Statistics.{Statistics}
use Rattle.fuse_words.specs.declared.request.Header.{Header}

-- the header of a request: len, opcode, unique, nodeid, uid, gid, pid, padding (fuse_in_header)
unfoldable pub header_bytes : Header → List ℕ
header_bytes header =
    little_bytes 4 header.length
    ++ little_bytes 4 header.opcode
    ++ little_bytes 8 header.unique
    ++ little_bytes 8 header.node
    ++ little_bytes 4 header.uid
    ++ little_bytes 4 header.gid
    ++ little_bytes 4 header.pid
    ++ little_bytes 4 0

-- the fields of SETATTR (fuse_setattr_in, 88 bytes)
pub record SetAttrIn : Type 0 where
  pub valid : ℕ
  pub padding : ℕ
  pub fh : ℕ
  pub size : ℕ
  pub lock_owner : ℕ
  pub atime : ℕ
  pub mtime : ℕ
  pub ctime : ℕ
  pub atimensec : ℕ
  pub mtimensec : ℕ
  pub ctimensec : ℕ
  pub mode : ℕ
  pub unused4 : ℕ
  pub uid : ℕ
  pub gid : ℕ
  pub unused5 : ℕ

-- the body of SETATTR (fuse_setattr_in)
unfoldable pub setattr_bytes : SetAttrIn → List ℕ
setattr_bytes fields =
    little_bytes 4 fields.valid
    ++ little_bytes 4 fields.padding
    ++ little_bytes 8 fields.fh
    ++ little_bytes 8 fields.size
    ++ little_bytes 8 fields.lock_owner
    ++ little_bytes 8 fields.atime
    ++ little_bytes 8 fields.mtime
    ++ little_bytes 8 fields.ctime
    ++ little_bytes 4 fields.atimensec
    ++ little_bytes 4 fields.mtimensec
    ++ little_bytes 4 fields.ctimensec
    ++ little_bytes 4 fields.mode
    ++ little_bytes 4 fields.unused4
    ++ little_bytes 4 fields.uid
    ++ little_bytes 4 fields.gid
    ++ little_bytes 4 fields.unused5

-- the body of SETATTR with these fields makes these changes; the values of the fields that are read fit their sizes (fuse_setattr_in)
pub record IsSetAttr (changes : AttributeChanges) (body : List ℕ) (fields : SetAttrIn) : Type 0 where
  pub valid : fields.valid < 2 ^ 32
  pub size : fields.size < 2 ^ 64
  pub atime : fields.atime < 2 ^ 64
  pub mtime : fields.mtime < 2 ^ 64
  pub mode : fields.mode < 2 ^ 32
  pub uid : fields.uid < 2 ^ 32
  pub gid : fields.gid < 2 ^ 32
  pub asked : changes ≡ changes_by fields.valid fields.size fields.atime fields.mtime fields.mode fields.uid fields.gid
  pub laid_out : body ≡ setattr_bytes fields

-- a name as a C string (fuse.h)
abbrev pub string : List ℕ → List ℕ
string name = name ++ 0 ∷ []

-- a body: the fields of a struct that are read, the rest of it, and then names or bytes (fuse_init_in, fuse_open_in, fuse_read_in, fuse_release_in, fuse_mknod_in, fuse_mkdir_in,
-- fuse_link_in, fuse_rename_in, fuse_rename2_in, fuse_write_in, fuse_fsync_in)
unfoldable pub body_bytes : Operation → List ℕ → List ℕ
body_bytes (Lookup name) rest = rest ++ string name
body_bytes (SetAttr changes) rest = rest
body_bytes (MkNod mode device name) rest = little_bytes 4 mode ++ little_bytes 4 device ++ rest ++ string name
body_bytes (MkDir mode name) rest = little_bytes 4 mode ++ rest ++ string name
body_bytes (Unlink name) rest = rest ++ string name
body_bytes (RmDir name) rest = rest ++ string name
body_bytes (Rename directory name new_name) rest = little_bytes 8 directory ++ rest ++ (string name ++ string new_name)
body_bytes (Rename2 directory flags name new_name) rest = little_bytes 8 directory ++ little_bytes 4 flags ++ rest ++ (string name ++ string new_name)
body_bytes (Link node name) rest = little_bytes 8 node ++ rest ++ string name
body_bytes (Init major minor max_readahead flags) rest = little_bytes 4 major ++ little_bytes 4 minor ++ little_bytes 4 max_readahead ++ little_bytes 4 flags ++ rest
body_bytes (Open flags) rest = little_bytes 4 flags ++ rest
body_bytes (Read handle offset size) rest = little_bytes 8 handle ++ little_bytes 8 offset ++ little_bytes 4 size ++ rest
body_bytes (Write handle offset content) rest = little_bytes 8 handle ++ little_bytes 8 offset ++ little_bytes 4 (length content) ++ rest ++ content
body_bytes (Release handle) rest = little_bytes 8 handle ++ rest
body_bytes (Fsync handle) rest = little_bytes 8 handle ++ rest
body_bytes (ReadDir handle offset size) rest = little_bytes 8 handle ++ little_bytes 8 offset ++ little_bytes 4 size ++ rest
body_bytes (ReleaseDir handle) rest = little_bytes 8 handle ++ rest
body_bytes (FsyncDir handle) rest = little_bytes 8 handle ++ rest
body_bytes other rest = rest

-- the number of an operation (fuse_opcode)
abbrev pub opcode_of : Operation → ℕ
opcode_of (Lookup name) = 1
opcode_of Forget = 2
opcode_of GetAttr = 3
opcode_of (SetAttr changes) = 4
opcode_of (MkNod mode device name) = 8
opcode_of (MkDir mode name) = 9
opcode_of (Unlink name) = 10
opcode_of (RmDir name) = 11
opcode_of (Rename directory name new_name) = 12
opcode_of (Link node name) = 13
opcode_of (Open flags) = 14
opcode_of (Read handle offset size) = 15
opcode_of (Write handle offset content) = 16
opcode_of StatFs = 17
opcode_of (Release handle) = 18
opcode_of (Fsync handle) = 20
opcode_of Flush = 25
opcode_of (Init major minor max_readahead flags) = 26
opcode_of OpenDir = 27
opcode_of (ReadDir handle offset size) = 28
opcode_of (ReleaseDir handle) = 29
opcode_of (FsyncDir handle) = 30
opcode_of Interrupt = 36
opcode_of Destroy = 38
opcode_of BatchForget = 42
opcode_of (Rename2 directory flags name new_name) = 45
opcode_of (Other opcode) = opcode

-- a name has no NUL (fuse.h)
abbrev pub IsString : List ℕ → Type 0
IsString name = All (λ b. 0 < b) name

-- the values of the fields fit their sizes, the rest of the struct follows, and no name has a NUL (fuse.h)
abbrev pub FitsBody : Operation → List ℕ → Type 0
FitsBody (Lookup name) rest = IsString name × (rest ≡ [])
FitsBody (SetAttr changes) rest = (fields : SetAttrIn) × IsSetAttr changes rest fields
FitsBody (MkNod mode device name) rest = (mode < 2 ^ 32) × (device < 2 ^ 32) × IsString name × (length rest ≡ 8)
FitsBody (MkDir mode name) rest = (mode < 2 ^ 32) × IsString name × (length rest ≡ 4)
FitsBody (Unlink name) rest = IsString name × (rest ≡ [])
FitsBody (RmDir name) rest = IsString name × (rest ≡ [])
FitsBody (Rename directory name new_name) rest = (directory < 2 ^ 64) × IsString name × IsString new_name × (rest ≡ [])
FitsBody (Rename2 directory flags name new_name) rest = (directory < 2 ^ 64) × (flags < 2 ^ 32) × IsString name × IsString new_name × (length rest ≡ 4)
FitsBody (Link node name) rest = (node < 2 ^ 64) × IsString name × (rest ≡ [])
FitsBody GetAttr rest = 16 ≤ length rest
FitsBody (Open flags) rest = (flags < 2 ^ 32) × (4 ≤ length rest)
FitsBody (Read handle offset size) rest = (handle < 2 ^ 64) × (offset < 2 ^ 64) × (size < 2 ^ 32) × (20 ≤ length rest)
FitsBody (Write handle offset content) rest = (handle < 2 ^ 64) × (offset < 2 ^ 64) × (length content < 2 ^ 32) × (length rest ≡ 20)
FitsBody (Release handle) rest = (handle < 2 ^ 64) × (16 ≤ length rest)
FitsBody (Fsync handle) rest = (handle < 2 ^ 64) × (8 ≤ length rest)
FitsBody Flush rest = 24 ≤ length rest
FitsBody (Init major minor max_readahead flags) rest = (major < 2 ^ 32) × (minor < 2 ^ 32) × (max_readahead < 2 ^ 32) × (flags < 2 ^ 32)
FitsBody OpenDir rest = 8 ≤ length rest
FitsBody (ReadDir handle offset size) rest = (handle < 2 ^ 64) × (offset < 2 ^ 64) × (size < 2 ^ 32) × (20 ≤ length rest)
FitsBody (ReleaseDir handle) rest = (handle < 2 ^ 64) × (16 ≤ length rest)
FitsBody (FsyncDir handle) rest = (handle < 2 ^ 64) × (8 ≤ length rest)
FitsBody (Other opcode) rest = ⊥
FitsBody other rest = ⊤

-- the numbers of a header fit the sizes of their fields (fuse_in_header)
pub record FitsHeader (header : Header) : Type 0 where
  pub length : header.length < 2 ^ 32
  pub opcode : header.opcode < 2 ^ 32
  pub unique : header.unique < 2 ^ 64
  pub node : header.node < 2 ^ 64
  pub uid : header.uid < 2 ^ 32
  pub gid : header.gid < 2 ^ 32
  pub pid : header.pid < 2 ^ 32

-- a request: its header and its body (fuse.h)
abbrev pub request_bytes : Header → Operation → List ℕ → List ℕ
request_bytes header operation rest = header_bytes header ++ body_bytes operation rest

-- a request in this layout is read as that request, unless its operation is `Other` (fuse.h)
abbrev pub RequestsAreReadBack : Type 0
RequestsAreReadBack =
    (header : Header) (operation : Operation) (rest : List ℕ) → FitsHeader header → FitsBody operation rest → header.opcode ≡ opcode_of operation
    → header.length ≡ length (request_bytes header operation rest)
    → request_of (request_bytes header operation rest) ≡ Ok (record { header = header; operation = operation })

-- replies have 16 bytes of header and their struct, and this is the length in their headers (fuse.h)
abbrev pub RepliesHaveTheirLengths : Type 0
RepliesHaveTheirLengths =
    (unique errno seconds handle flags size : ℕ) (settings : Settings) (entry : EntryReply) (attributes : Attributes) (sizes : Statistics) (content : List ℕ)
    → (length (status_message unique errno) ≡ 16)
    × (length (init_message unique settings) ≡ 16 + 64)
    × (length (entry_message unique entry) ≡ 16 + 128)
    × (length (attributes_message unique seconds attributes) ≡ 16 + 104)
    × (length (open_message unique handle flags) ≡ 16 + 16)
    × (length (data_message unique content) ≡ 16 + length content)
    × (length (written_message unique size) ≡ 16 + 8)
    × (length (statfs_message unique sizes) ≡ 16 + 80)

-- directory entries have the size that `dirent_size` gives, which is a multiple of 8 (FUSE_DIRENT_ALIGN)
abbrev pub EntriesAreAligned : Type 0
EntriesAreAligned =
    (ino next_offset : ℕ) (kind : EntryKind) (name : List ℕ)
    → (length (dirent_bytes ino next_offset kind name) ≡ dirent_size name) × (dirent_size name % 8 ≡ 0)
