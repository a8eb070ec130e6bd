-- The replies to requests, on the tree after their calls.
use Rattle.std.specs.Prelude.{ℕ, ◌-◌, ◌^◌, ◌==◌, nat_lt, bit_and, if◌then◌else◌, List, [], length, Option, None, Some, Result, Ok, Err}
use Rattle.std.specs.Option.{ok_or}
use Rattle.fuse_words.specs.Replies.{status_message, init_message, entry_message, attributes_message, open_message, written_message, statfs_message}
use Rattle.fuse_words.specs.declared.operation.Operation.{Operation}
use Rattle.fuse_words.specs.declared.operation.Operation.TheVariants as operations
use Rattle.fuse_words.specs.declared.reply.Attributes.{Attributes}
use Rattle.fuse_words.specs.declared.reply.EntryReply.{EntryReply}
use Rattle.fuse_words.specs.declared.reply.Settings.{Settings}
use Rattle.fuse_words.specs.declared.request.Header.{Header}
use Rattle.vol_layout.specs.declared.mode.Kind.{Kind}
use Rattle.vol_layout.specs.declared.mode.Kind.TheVariants as kinds
use Rattle.vol_dir.specs.Tree.{tree}
use Rattle.vol_serve.specs.Nodes.{look_up}
use Rattle.vol_serve.specs.declared.nodes.fault.NodeFault.TheVariants as faults
use Rattle.vol_serve.specs.Answers.{read_reply, listing_reply}
use Rattle.vol_serve.specs.Attributes.{attributes_in}
use Rattle.vol_serve.specs.Statistics.{statistics_of}
use Rattle.vol_serve.specs.declared.errno.RequestRefusal.{RequestRefusal}
use Rattle.vol_serve.specs.declared.errno.RequestRefusal.TheVariants as requests
use Rattle.vol_volume.specs.declared.calls.Call.{Call}
use Rattle.vol_mounted.specs.Numbers.{node_number, i_number}
use Rattle.vol_mounted.specs.Plans.{Sight, stat_at, file_calls, directory_calls, unlink_calls, rmdir_calls, link_calls, rename_calls, write_calls, attribute_calls}
use Rattle.pdp_words.specs.Steps.{and_then}
use Rattle.vol_mounted.specs.Refusals.{no_node, of_nodes}
use Rattle.vol_mounted.specs.declared.owner.Owner.{Owner}
use Rattle.vol_mounted.specs.declared.refusal.MountedRefusal.{MountedRefusal}
use Rattle.vol_mounted.specs.declared.refusal.MountedRefusal.TheVariants as mounted

-- the i-number of the node with the number that a request names (this project)
abbrev pub number_at : Sight → ℕ → Result ℕ MountedRefusal
number_at sight node = ok_or (i_number sight.geometry.edition sight.nodes node) (no_node faults.Stale)

-- the calls of a rename from one directory to another, both given by their node numbers (rename)
abbrev pub renamed : Sight → Header → ℕ → ℕ → List ℕ → List ℕ → Result (List Call) MountedRefusal
renamed sight header directory flags name new_name =
    and_then (number_at sight header.node) (λ d.
    and_then (number_at sight directory) (λ e. rename_calls sight flags d name e new_name))

-- the calls that an operation makes; no calls if it changes nothing (fuse_opcode)
unfoldable pub calls_of : Sight → Header → Operation → Result (List Call) MountedRefusal
calls_of sight header (operations.MkNod mode device name) = and_then (number_at sight header.node) (λ d. file_calls sight header d name mode device)
calls_of sight header (operations.MkDir mode name) = and_then (number_at sight header.node) (λ d. directory_calls sight header d name mode)
calls_of sight header (operations.Unlink name) = and_then (number_at sight header.node) (λ d. unlink_calls sight d name)
calls_of sight header (operations.RmDir name) = and_then (number_at sight header.node) (λ d. rmdir_calls sight d name)
calls_of sight header (operations.Link node name) =
    and_then (number_at sight header.node) (λ d. and_then (number_at sight node) (λ i. link_calls sight i d name))
calls_of sight header (operations.Rename directory name new_name) = renamed sight header directory 0 name new_name
calls_of sight header (operations.Rename2 directory flags name new_name) = renamed sight header directory flags name new_name
calls_of sight header (operations.Write handle offset bytes) = and_then (number_at sight header.node) (λ i. write_calls sight i offset bytes)
calls_of sight header (operations.SetAttr changes) = and_then (number_at sight header.node) (λ i. attribute_calls sight i changes)
calls_of sight header operation = Ok []

-- attributes as they are shown: if all nodes are shown as one user's, with that user and group (this project)
abbrev pub shown : Option Owner → Attributes → Attributes
shown None attributes = attributes
shown (Some owner) attributes = record attributes { uid = owner.uid; gid = owner.gid }

-- the attributes of node i as they are shown (fuse_attr)
abbrev pub shown_at : Sight → ℕ → Result Attributes MountedRefusal
shown_at sight i = and_then (of_nodes (attributes_in (tree sight.geometry sight.image) i)) (λ attributes. Ok (shown sight.owner attributes))

-- the entry of node i, which the kernel may keep for an hour (fuse_entry_out)
abbrev pub entry_at : Sight → ℕ → Attributes → EntryReply
entry_at sight i attributes = record {
  node = node_number sight.geometry.edition sight.nodes i;
  generation = 0;
  name_seconds = 3600;
  attribute_seconds = 3600;
  attributes = attributes;
}

-- the reply with the entry of a name in directory d (fuse_entry_out)
abbrev pub entry_reply : Sight → ℕ → ℕ → List ℕ → Result (List ℕ) MountedRefusal
entry_reply sight unique d name =
    and_then (of_nodes (look_up (tree sight.geometry sight.image) d name)) (λ i.
    and_then (shown_at sight i) (λ attributes. Ok (entry_message unique (entry_at sight i attributes))))

-- the reply with the attributes of node i (fuse_attr_out)
abbrev pub attributes_reply : Sight → ℕ → ℕ → Result (List ℕ) MountedRefusal
attributes_reply sight unique i = and_then (shown_at sight i) (λ attributes. Ok (attributes_message unique 3600 attributes))

-- a result whose refusal is one of a volume served read-only (this project)
abbrev pub of_request : {X : Type 0} → Result X RequestRefusal → Result X MountedRefusal
of_request (Ok x) = Ok x
of_request (Err refusal) = Err (mounted.Request refusal)

-- the reply to OPEN of a node of some kind: only a regular file can be opened; the kernel may keep the bytes that it has cached (FOPEN_KEEP_CACHE)
abbrev pub open_by : Kind → ℕ → Result (List ℕ) MountedRefusal
open_by kinds.Regular unique = Ok (open_message unique 0 2)
open_by kind unique = Err (no_node faults.NotRegular)

-- the reply to OPENDIR of a node of some kind: only a directory can be opened; the kernel may keep its entries (FOPEN_KEEP_CACHE, FOPEN_CACHE_DIR)
abbrev pub open_directory_by : Kind → ℕ → Result (List ℕ) MountedRefusal
open_directory_by kinds.Directory unique = Ok (open_message unique 0 10)
open_directory_by kind unique = Err (no_node faults.NotDirectory)

-- the server's settings, limited to the kernel's: reading ahead, 128 KiB at once, also in a write, and times of whole seconds (fuse_init_out;
-- FUSE_ASYNC_READ, FUSE_BIG_WRITES)
abbrev pub settings_of : ℕ → ℕ → Settings
settings_of max_readahead flags = record {
  max_readahead = max_readahead;
  flags = bit_and flags 33;
  max_background = 12;
  congestion_threshold = 9;
  max_write = 131072;
  time_granularity = 1000000000;
  max_pages = 0;
}

-- the reply to INIT: a kernel below version 7 is refused, and one above version 7 sends INIT again (fuse.h)
abbrev pub init_reply : ℕ → ℕ → ℕ → ℕ → Result (List ℕ) MountedRefusal
init_reply unique major max_readahead flags =
    if nat_lt major 7 then Err (mounted.Request requests.Version) else Ok (init_message unique (settings_of max_readahead flags))

-- the refusal of an operation that isn't served: a symbolic link can't be made (fuse_opcode: SYMLINK)
abbrev pub refusal_of : ℕ → MountedRefusal
refusal_of opcode = if opcode == 6 then mounted.NotPermitted else mounted.Request requests.Unserved

-- the number of some bytes in a reply; no request has 2^32 bytes (fuse_write_out)
abbrev pub count_of : List ℕ → ℕ
count_of bytes = if nat_lt (length bytes) (2 ^ 32) then length bytes else 2 ^ 32 - 1

-- the reply to an operation on node i of the present tree (fuse_opcode)
unfoldable pub node_reply : Sight → ℕ → ℕ → Operation → Result (List ℕ) MountedRefusal
node_reply sight unique i (operations.Lookup name) = entry_reply sight unique i name
node_reply sight unique i (operations.MkNod mode device name) = entry_reply sight unique i name
node_reply sight unique i (operations.MkDir mode name) = entry_reply sight unique i name
node_reply sight unique i (operations.Link node name) = entry_reply sight unique i name
node_reply sight unique i operations.GetAttr = attributes_reply sight unique i
node_reply sight unique i (operations.SetAttr changes) = attributes_reply sight unique i
node_reply sight unique i (operations.Open flags) = and_then (stat_at sight i) (λ stat. open_by stat.kind unique)
node_reply sight unique i operations.OpenDir = and_then (stat_at sight i) (λ stat. open_directory_by stat.kind unique)
node_reply sight unique i (operations.Read handle offset size) = of_request (read_reply (tree sight.geometry sight.image) unique i offset size)
node_reply sight unique i (operations.ReadDir handle offset size) = of_request (listing_reply sight.geometry sight.image unique i offset size)
node_reply sight unique i (operations.Write handle offset bytes) = Ok (written_message unique (count_of bytes))
node_reply sight unique i (operations.Unlink name) = Ok (status_message unique 0)
node_reply sight unique i (operations.RmDir name) = Ok (status_message unique 0)
node_reply sight unique i (operations.Rename directory name new_name) = Ok (status_message unique 0)
node_reply sight unique i (operations.Rename2 directory flags name new_name) = Ok (status_message unique 0)
node_reply sight unique i operation = Err (mounted.Request requests.Unserved)

-- the reply to an operation, after its calls; FLUSH, for one, isn't served (fuse_opcode)
unfoldable pub reply_of : Sight → Header → Operation → Result (List ℕ) MountedRefusal
reply_of sight header (operations.Init major minor max_readahead flags) = init_reply header.unique major max_readahead flags
reply_of sight header operations.StatFs = Ok (statfs_message header.unique (statistics_of sight.geometry sight.image))
reply_of sight header operations.Destroy = Ok (status_message header.unique 0)
reply_of sight header (operations.Release handle) = Ok (status_message header.unique 0)
reply_of sight header (operations.ReleaseDir handle) = Ok (status_message header.unique 0)
reply_of sight header (operations.Fsync handle) = Ok (status_message header.unique 0)
reply_of sight header (operations.FsyncDir handle) = Ok (status_message header.unique 0)
reply_of sight header (operations.Other opcode) = Err (refusal_of opcode)
reply_of sight header operation = and_then (number_at sight header.node) (λ i. node_reply sight header.unique i operation)
