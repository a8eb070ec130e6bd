-- The reply to each request.
use Rattle.std.specs.Prelude.{ℕ, ◌%◌, ◌==◌, ◌||◌, ◌&&◌, nat_lt, nat_le, min, bit_and, Bool, if◌then◌else◌, List, Option, None, Some, Result, Ok, Err}
use Rattle.std.specs.Option.{ok_or}
use Rattle.fuse_words.specs.Replies.{status_message, init_message, entry_message, attributes_message, open_message, data_message, statfs_message}
use Rattle.fuse_words.specs.Requests.{wants_reply, request_of}
use Rattle.fuse_words.specs.declared.operation.Operation.{Operation}
use Rattle.fuse_words.specs.declared.operation.Operation.TheVariants as operations
use Rattle.fuse_words.specs.declared.reply.Attributes.{Attributes}
use Rattle.fuse_words.specs.declared.reply.EntryReply.{EntryReply}
use Rattle.fuse_words.specs.declared.reply.Settings.{Settings}
use Rattle.fuse_words.specs.declared.request.Header.{Header}
use Rattle.fuse_words.specs.declared.request.Request.{Request}
use Rattle.fuse_words.specs.declared.request.RequestFault.{RequestFault}
use Rattle.fuse_words.specs.declared.request.RequestFault.TheVariants as faults
use Rattle.vol_layout.specs.declared.edition.Edition.{Edition}
use Rattle.vol_layout.specs.declared.geometry.Geometry.{Geometry}
use Rattle.vol_layout.specs.declared.mode.Kind.{Kind}
use Rattle.vol_layout.specs.declared.mode.Kind.TheVariants as kinds
use Rattle.vol_dir.specs.Tree.{Tree, tree}
use Rattle.vol_serve.specs.Nodes.{stat_in, look_up, read_in}
use Rattle.vol_serve.specs.declared.nodes.fault.NodeFault.{NodeFault}
use Rattle.vol_serve.specs.declared.nodes.fault.NodeFault.TheVariants as nodes
use Rattle.vol_serve.specs.Attributes.{attributes_in}
use Rattle.vol_serve.specs.Errno.{errno}
use Rattle.vol_serve.specs.Listings.{listing_in}
use Rattle.vol_serve.specs.NodeNumbers.{node_number, i_number}
use Rattle.vol_serve.specs.Statistics.{statistics_of}
use Rattle.vol_serve.specs.declared.errno.RequestRefusal.{RequestRefusal}
use Rattle.vol_serve.specs.declared.errno.RequestRefusal.TheVariants.{Node, ReadOnly, Malformed, Version, Unserved}

-- the reply made from a result about a node, or the refusal for its fault (this project)
abbrev pub answered : {X : Type 0} → Result X NodeFault → (X → Result (List ℕ) RequestRefusal) → Result (List ℕ) RequestRefusal
answered (Ok x) next = next x
answered (Err fault) next = Err (Node fault)

-- the i-number of the node that a request names (this project)
abbrev pub number_at : Edition → ℕ → Result ℕ NodeFault
number_at edition node = ok_or (i_number edition node) nodes.Stale

-- the server's settings, given the kernel's: reading ahead, 128 KiB at once, times of whole seconds (fuse_init_out; FUSE_ASYNC_READ)
abbrev pub settings_of : ℕ → ℕ → Settings
settings_of max_readahead flags = record {
  max_readahead = max_readahead;
  flags = bit_and flags 1;
  max_background = 12;
  congestion_threshold = 9;
  max_write = 131072;
  time_granularity = 1000000000;
  max_pages = 0;
}

-- the reply to INIT: a kernel below version 7 is refused, and one above version 7 sends INIT again (fuse.h)
abbrev pub init_reply : ℕ → ℕ → ℕ → ℕ → Result (List ℕ) RequestRefusal
init_reply unique major max_readahead flags =
    if nat_lt major 7 then Err Version else Ok (init_message unique (settings_of max_readahead flags))

-- true if an operation would change the volume: SETATTR, SYMLINK, MKNOD to LINK, WRITE, CREATE, FALLOCATE, RENAME2, COPY_FILE_RANGE (fuse_opcode)
abbrev pub is_change : ℕ → Bool
is_change opcode =
    (opcode == 4) || (opcode == 6) || (nat_le 8 opcode && nat_le opcode 13) || (opcode == 16) || (opcode == 35) || (opcode == 43) || (opcode == 45) || (opcode == 47)

-- the reply to OPEN of a node of some kind: only a regular file can be opened, and only for reading; the kernel may keep the bytes that it has cached
-- (FOPEN_KEEP_CACHE; O_ACCMODE)
abbrev pub open_by : Kind → ℕ → ℕ → Result (List ℕ) RequestRefusal
open_by kinds.Regular unique flags = if flags % 4 == 0 then Ok (open_message unique 0 2) else Err ReadOnly
open_by _ unique flags = Err (Node nodes.NotRegular)

-- the reply to OPENDIR of a node of some kind: only a directory can be opened; the kernel may keep its entries (FOPEN_KEEP_CACHE, FOPEN_CACHE_DIR)
abbrev pub open_directory_by : Kind → ℕ → Result (List ℕ) RequestRefusal
open_directory_by kinds.Directory unique = Ok (open_message unique 0 10)
open_directory_by _ unique = Err (Node nodes.NotDirectory)

-- the reply to OPEN of node i (fuse_open_in)
abbrev pub open_reply : Tree → ℕ → ℕ → ℕ → Result (List ℕ) RequestRefusal
open_reply tree unique i flags = answered (ok_or (stat_in tree i) nodes.Stale) (λ stat. open_by stat.kind unique flags)

-- the reply to OPENDIR of node i (fuse_open_in)
abbrev pub open_directory_reply : Tree → ℕ → ℕ → Result (List ℕ) RequestRefusal
open_directory_reply tree unique i = answered (ok_or (stat_in tree i) nodes.Stale) (λ stat. open_directory_by stat.kind unique)

-- the entry of node i, which the kernel may keep for an hour (fuse_entry_out)
abbrev pub entry_of_node : Edition → ℕ → Attributes → EntryReply
entry_of_node edition i attributes = record {
  node = node_number edition i;
  generation = 0;
  name_seconds = 3600;
  attribute_seconds = 3600;
  attributes = attributes;
}

-- the reply to LOOKUP of a name in directory d (fuse_entry_out)
abbrev pub lookup_reply : Geometry → List ℕ → ℕ → ℕ → List ℕ → Result (List ℕ) RequestRefusal
lookup_reply geometry image unique d name =
    answered (look_up (tree geometry image) d name) (λ i.
    answered (attributes_in (tree geometry image) i) (λ attributes. Ok (entry_message unique (entry_of_node geometry.edition i attributes))))

-- the reply to GETATTR of node i (fuse_attr_out)
abbrev pub attributes_reply : Tree → ℕ → ℕ → Result (List ℕ) RequestRefusal
attributes_reply tree unique i = answered (attributes_in tree i) (λ attributes. Ok (attributes_message unique 3600 attributes))

-- the reply to READ of node i: at most 128 KiB (fuse_read_in)
abbrev pub read_reply : Tree → ℕ → ℕ → ℕ → ℕ → Result (List ℕ) RequestRefusal
read_reply tree unique i offset size = answered (read_in tree i offset (min 131072 size)) (λ bytes. Ok (data_message unique bytes))

-- the reply to READDIR of directory d, starting at slot `offset`: at most 128 KiB (fuse_read_in)
abbrev pub listing_reply : Geometry → List ℕ → ℕ → ℕ → ℕ → ℕ → Result (List ℕ) RequestRefusal
listing_reply geometry image unique d offset size =
    answered (listing_in geometry image d offset (min 131072 size)) (λ entries. Ok (data_message unique entries))

-- the reply to an operation on node i, or its refusal; FLUSH, for one, isn't served (fuse_opcode)
unfoldable pub node_reply : Geometry → List ℕ → ℕ → ℕ → Operation → Result (List ℕ) RequestRefusal
node_reply geometry image unique i (operations.Lookup name) = lookup_reply geometry image unique i name
node_reply geometry image unique i operations.GetAttr = attributes_reply (tree geometry image) unique i
node_reply geometry image unique i (operations.Open flags) = open_reply (tree geometry image) unique i flags
node_reply geometry image unique i operations.OpenDir = open_directory_reply (tree geometry image) unique i
node_reply geometry image unique i (operations.Read handle offset size) = read_reply (tree geometry image) unique i offset size
node_reply geometry image unique i (operations.ReadDir handle offset size) = listing_reply geometry image unique i offset size
node_reply geometry image unique i _ = Err Unserved

-- the reply to an operation that changes nothing, or its refusal (fuse_opcode)
unfoldable pub served_reply : Geometry → List ℕ → Header → Operation → Result (List ℕ) RequestRefusal
served_reply geometry image header (operations.Init major minor max_readahead flags) = init_reply header.unique major max_readahead flags
served_reply geometry image header operations.StatFs = Ok (statfs_message header.unique (statistics_of geometry image))
served_reply geometry image header operations.Destroy = Ok (status_message header.unique 0)
served_reply geometry image header (operations.Release handle) = Ok (status_message header.unique 0)
served_reply geometry image header (operations.ReleaseDir handle) = Ok (status_message header.unique 0)
served_reply geometry image header (operations.Other opcode) = Err Unserved
served_reply geometry image header operation =
    answered (number_at geometry.edition header.node) (λ i. node_reply geometry image header.unique i operation)

-- the reply to an operation, or its refusal: all changes of the volume are refused (this project)
abbrev pub operation_reply : Geometry → List ℕ → Header → Operation → Result (List ℕ) RequestRefusal
operation_reply geometry image header operation =
    if is_change header.opcode then Err ReadOnly else served_reply geometry image header operation

-- a reply, or the message with a refusal's error number (fuse_out_header)
abbrev pub message_of : ℕ → Result (List ℕ) RequestRefusal → List ℕ
message_of unique (Ok reply) = reply
message_of unique (Err refusal) = status_message unique (errno refusal)

-- the reply to a request with a header, if the kernel waits for one (fuse_in_header)
abbrev pub waited_for : Header → Result (List ℕ) RequestRefusal → Option (List ℕ)
waited_for header reply = if wants_reply header.opcode then Some (message_of header.unique reply) else None

-- the reply to bytes that were read as a request, if one is sent: there is no reply to bytes without a whole header (this project)
abbrev pub reply_by : Geometry → List ℕ → Result Request RequestFault → Option (List ℕ)
reply_by geometry image (Ok request) = waited_for request.header (operation_reply geometry image request.header request.operation)
reply_by geometry image (Err faults.NoHeader) = None
reply_by geometry image (Err (faults.Length header)) = waited_for header (Err Malformed)
reply_by geometry image (Err (faults.Body header)) = waited_for header (Err Malformed)

-- the reply to a request's bytes, if one is sent; the image determines it (this project)
abbrev pub reply_to : Geometry → List ℕ → List ℕ → Option (List ℕ)
reply_to geometry image bytes = reply_by geometry image (request_of bytes)
