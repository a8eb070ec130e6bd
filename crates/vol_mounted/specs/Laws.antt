-- Statements of the laws of a mounted volume.
use Rattle.std.specs.Prelude.{◌≡◌, ◌≢◌, ◌⊎◌, ◌<◌, ◌≤◌, ◌↔◌, ℕ, ◌+◌, ◌-◌, ◌/◌, ◌^◌, ◌%◌, ◌&&◌, ◌||◌, min, Bool, if◌then◌else◌, List, length, take, drop, slice_get, slice_set, Option, None, Some, is_none, is_some, unwrap_or, Ok, Err, MatchBool}
use Rattle.std.specs.Option.{option_map, option_map_or}
use Rattle.fuse_words.specs.Replies.{attributes_message, data_message}
use Rattle.fuse_words.specs.Requests.{number, request_of}
use Rattle.fuse_words.specs.declared.attribute_changes.AttributeChanges.{AttributeChanges}
use Rattle.fuse_words.specs.declared.operation.Operation.{Operation}
use Rattle.fuse_words.specs.declared.operation.Operation.TheVariants as operations
use Rattle.fuse_words.specs.declared.reply.Attributes.{Attributes}
use Rattle.fuse_words.specs.declared.request.Header.{Header}
use Rattle.vol_file.specs.Changes.{spliced}
use Rattle.vol_dir.specs.Tree.{Body, Content, Node, Tree}
use Rattle.vol_change.specs.Edits.{body_of, stamped}
use Rattle.vol_serve.specs.Nodes.{look_up}
use Rattle.vol_serve.specs.declared.nodes.fault.NodeFault.TheVariants as faults
use Rattle.vol_serve.specs.declared.nodes.stats.SpecialFile.{SpecialFile}
use Rattle.vol_serve.specs.Attributes.{attributes_of}
use Rattle.vol_volume.specs.Volume.{IsConsistent, reads_as}
use Rattle.vol_volume.specs.declared.queries.Stat.{Stat}
use Rattle.vol_mounted.specs.Numbers.{birth_at, node_number}
use Rattle.vol_mounted.specs.Orphans.{KeptFile, files_after, given_attributes, resized}
use Rattle.vol_mounted.specs.Plans.{set_time}
use Rattle.vol_mounted.specs.Replies.{number_at, reply_of}
use Rattle.vol_mounted.specs.Servers.{files_in, limits_in, sight_at}
use Rattle.vol_mounted.specs.Turns.{Turn, Turns, Follow, IsMade, is_orphan}
use Rattle.vol_mounted.specs.declared.owner.Owner.{Owner}
use Rattle.vol_mounted.specs.declared.server.MountedServer.{MountedServer}

-- the tree that is served (manual section 5, file system)
abbrev pub tree_in : MountedServer → Tree
tree_in server = (reads_as server.volume.edition server.volume.image).tree

-- the kernel's number of the node with i-number i (this project)
abbrev pub number_in : MountedServer → ℕ → ℕ
number_in server i = node_number server.volume.edition server.nodes i

-- a turn made node i: its i-number was free before and isn't afterwards; it has 16 bits, and was allocated at most 2^32 - 3 times before (this project)
pub record MakesNode (old new : MountedServer) (turn : Turn) (i : ℕ) : Type 0 where
  pub turned : Turns old new turn
  pub free : (tree_in old).nodes i ≡ None
  pub lives : (tree_in new).nodes i ≢ None
  pub short : i < 65536
  pub births : birth_at old.nodes i < 2 ^ 32 - 1

-- a node number is never used for two nodes that live at different times: if a turn makes a node, no number that this node has afterwards was any node's
-- before (this project)
abbrev pub NumbersStayApart : Type 0
NumbersStayApart = (first old new last : MountedServer) (earlier later : List Turn) (turn : Turn) (i j : ℕ) → length first.nodes ≡ 65536
    → Follow first earlier old → MakesNode old new turn i → Follow new later last → j < 65536 → number_in last i ≢ number_in first j

-- READ of the node with this number gives these bytes, at each offset, up to 128 KiB at once (fuse_read_in)
abbrev pub Reads : MountedServer → ℕ → List ℕ → Type 0
Reads server node bytes = (now : ℕ) (header : Header) (handle offset size : ℕ) → header.node ≡ node
    → reply_of (sight_at server now) header (operations.Read handle offset size) ≡ Ok (data_message header.unique (take (min 131072 size) (drop offset bytes)))

-- after WRITE, READ gives the bytes at their offset, zeros in a gap before it, and everywhere else what it gave before; no other node changes (write;
-- read)
abbrev pub WritesAreRead : Type 0
WritesAreRead = (old new : MountedServer) (now : ℕ) (header : Header) (handle offset : ℕ) (bytes : List ℕ) → IsConsistent old.volume → 1 ≤ length bytes
    → IsMade old new now header (operations.Write handle offset bytes)
    → (body : List ℕ) × Reads old header.node body × Reads new header.node (spliced body offset bytes)
    × ((j : ℕ) → number_at (sight_at old now) header.node ≢ Ok j → (tree_in new).nodes j ≡ (tree_in old).nodes j)

-- a turn in which this request is accepted: there is a reply to it, and its error is 0 (fuse_out_header)
pub record AcceptsRequest (old new : MountedServer) (turn : Turn) (header : Header) (operation : Operation) : Type 0 where
  pub turned : Turns old new turn
  pub request : request_of turn.request ≡ Ok (record { header = header; operation = operation })
  pub reply : List ℕ
  pub came : turn.reply ≡ Some reply
  pub accepted : number 4 4 reply ≡ 0

-- the old name of a rename, the number of the directory for the new name, and the new name (fuse_rename_in)
pub record Renaming : Type 0 where
  pub name : List ℕ
  pub directory : ℕ
  pub new_name : List ℕ

-- the rename that an operation is, if it is one (fuse_opcode: RENAME, RENAME2)
abbrev pub renaming_of : Operation → Option Renaming
renaming_of (operations.Rename directory name new_name) = Some (record { name = name; directory = directory; new_name = new_name })
renaming_of (operations.Rename2 directory flags name new_name) = Some (record { name = name; directory = directory; new_name = new_name })
renaming_of operation = None

-- a name in directory d leads to node i (Lions on namei)
abbrev pub Leads : Tree → ℕ → List ℕ → ℕ → Type 0
Leads tree d name i = look_up tree d name ≡ Ok i

-- node i has a new name, in directory e, in place of its old one, in directory d: only the time of its change is another. All other names lead where
-- they led, and no other node changes but these directories, and what the new name led to before (rename)
pub record MovesName (old new : Tree) (now i d : ℕ) (name : List ℕ) (e : ℕ) (new_name : List ℕ) : Type 0 where
  pub leads : Leads new e new_name i
  pub gone : look_up new d name ≡ Err faults.NoEntry
  pub others : (x j : ℕ) (word : List ℕ) → (x ≡ d → word ≡ name → ⊥) → (x ≡ e → word ≡ new_name → ⊥) → Leads old x word j ↔ Leads new x word j
  pub node : new.nodes i ≡ option_map (stamped now) (old.nodes i)
  pub stays : (j : ℕ) → j ≢ i → j ≢ d → j ≢ e → (Leads old e new_name j → ⊥) → new.nodes j ≡ old.nodes j

-- a rename of node i, from a name in directory d to one in directory e; if the new name leads to the node already, nothing changes (rename)
abbrev pub Renames : Tree → Tree → ℕ → ℕ → ℕ → List ℕ → ℕ → List ℕ → Type 0
Renames old new now i d name e new_name =
    (Leads old e new_name i × (new ≡ old)) ⊎ ((Leads old e new_name i → ⊥) × MovesName old new now i d name e new_name)

-- after an accepted RENAME or RENAME2 the new name leads to what the old one led to, the old one to nothing, unless both led to one node, and all other
-- names stay (rename)
abbrev pub RenamesLead : Type 0
RenamesLead = (old new : MountedServer) (turn : Turn) (header : Header) (operation : Operation) (names : Renaming) → IsConsistent old.volume
    → renaming_of operation ≡ Some names → AcceptsRequest old new turn header operation
    → (i d e : ℕ) × (number_at (sight_at old turn.now) header.node ≡ Ok d) × (number_at (sight_at old turn.now) names.directory ≡ Ok e)
    × Leads (tree_in old) d names.name i × Renames (tree_in old) (tree_in new) turn.now i d names.name e names.new_name

-- GETATTR of the node with this number gives these attributes (fuse_attr_out)
abbrev pub Shows : MountedServer → ℕ → Stat → Option SpecialFile → Type 0
Shows server node stat special = (now : ℕ) (header : Header) → header.node ≡ node
    → reply_of (sight_at server now) header operations.GetAttr ≡ Ok (attributes_message header.unique 3600 (attributes_of stat special))

-- true if nothing is to be set: no attribute is given, or at most a user and a group, while all nodes are shown as one user's (chown)
abbrev pub sets_nothing : Option Owner → AttributeChanges → Bool
sets_nothing owner changes =
    ((is_none changes.size && is_none changes.mode) && (is_some owner || (is_none changes.uid && is_none changes.gid)))
    && (is_none changes.accessed && is_none changes.modified)

-- the attributes of a node after SETATTR: those that are given, and no others but the times that a change sets. A new size sets the time of the last
-- modification, unless only the time of the last access is given (chmod; chown; truncate; utimensat)
abbrev pub with_changes : Option Owner → ℕ → AttributeChanges → Stat → Stat
with_changes owner now changes stat = record stat {
  permissions = option_map_or (λ mode. mode % 4096) changes.mode stat.permissions;
  uid = unwrap_or changes.uid stat.uid;
  gid = unwrap_or changes.gid stat.gid;
  size = unwrap_or changes.size stat.size;
  accessed = set_time now stat.accessed changes.accessed;
  modified = set_time now (if is_some changes.size && is_none changes.accessed then now else stat.modified) changes.modified;
  changed = if sets_nothing owner changes then stat.changed else option_map (λ _. now) stat.changed;
}

-- the content of a node after SETATTR: if a size is given, the bytes are cut to it or lengthened with zeros (truncate)
abbrev pub content_with : Option ℕ → Content → Content
content_with None content = content
content_with (Some size) content = Body (resized (body_of content) size)

-- node i has the attributes that were set, and nothing else of it has changed, also no user and group that aren't shown; nor has another node changed, or
-- a file without a name (fuse_setattr_in)
pub record SetsAttributes (old new : MountedServer) (now node : ℕ) (changes : AttributeChanges) : Type 0 where
  pub i : ℕ
  pub numbered : number_at (sight_at old now) node ≡ Ok i
  pub stat : Stat
  pub special : Option SpecialFile
  pub had : Shows old node stat special
  pub has : Shows new node (with_changes old.owner now changes stat) special
  pub was : Node
  pub stood : (tree_in old).nodes i ≡ Some was
  pub is : Node
  pub stands : (tree_in new).nodes i ≡ Some is
  pub content : is.content ≡ content_with changes.size was.content
  pub hidden : (owner : Owner) → old.owner ≡ Some owner → (is.uid ≡ was.uid) × (is.gid ≡ was.gid)
  pub others : (j : ℕ) → j ≢ i → (tree_in new).nodes j ≡ (tree_in old).nodes j
  pub files : files_in new ≡ files_in old

-- a reply to an operation on a file without a name that leaves all such files as they are (fuse_opcode)
abbrev pub Replies : MountedServer → ℕ → Header → Operation → List ℕ → Type 0
Replies server now header operation reply =
    files_after (limits_in server) now header operation (files_in server) ≡ Ok (record { files = files_in server; reply = reply })

-- GETATTR of the file without a name that has this number gives these attributes, and READ these bytes (fuse_attr_out; fuse_read_in)
pub record ShowsFile (server : MountedServer) (node : ℕ) (attributes : Attributes) (bytes : List ℕ) : Type 0 where
  pub shows : (now : ℕ) (header : Header) → header.node ≡ node
      → Replies server now header operations.GetAttr (attributes_message header.unique 3600 attributes)
  pub reads : (now handle offset size : ℕ) (header : Header) → header.node ≡ node
      → Replies server now header (operations.Read handle offset size) (data_message header.unique (take (min 131072 size) (drop offset bytes)))

-- the attributes of a file without a name after SETATTR: those that are given, and no others (fuse_setattr_in)
abbrev pub file_with_changes : ℕ → AttributeChanges → Attributes → Attributes
file_with_changes now changes attributes = record (given_attributes now changes attributes) {
  size = unwrap_or changes.size attributes.size;
  blocks = (unwrap_or changes.size attributes.size + 511) / 512;
}

-- a file without a name has the attributes that were set, its bytes are cut or lengthened with zeros if a size is given, and nothing else has changed,
-- in the tree or in another such file (fuse_setattr_in; truncate)
pub record SetsFile (old new : MountedServer) (now node : ℕ) (changes : AttributeChanges) : Type 0 where
  pub attributes : Attributes
  pub bytes : List ℕ
  pub had : ShowsFile old node attributes bytes
  pub has : ShowsFile new node (file_with_changes now changes attributes) (option_map_or (resized bytes) changes.size bytes)
  pub place : ℕ
  pub before : KeptFile
  pub stood : slice_get (files_in old) place ≡ Some before
  pub after : KeptFile
  pub kept : (after.node ≡ before.node) × (after.opened ≡ before.opened)
  pub files : files_in new ≡ slice_set (files_in old) place after
  pub tree : tree_in new ≡ tree_in old

-- after an accepted SETATTR, GETATTR has what was set, and nothing else of the node changed, whether it has a name or is an open file without one
-- (fuse_setattr_in)
abbrev pub AttributesAreSet : Type 0
AttributesAreSet = (old new : MountedServer) (turn : Turn) (header : Header) (changes : AttributeChanges) → IsConsistent old.volume
    → AcceptsRequest old new turn header (operations.SetAttr changes)
    → MatchBool (is_orphan old header.node) (SetsFile old new turn.now header.node changes) (SetsAttributes old new turn.now header.node changes)
