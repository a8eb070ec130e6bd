-- The files without a name, which are kept in memory while they are open.
use Rattle.std.specs.Prelude.{ℕ, ◌+◌, ◌-◌, ◌/◌, ◌%◌, ◌^◌, ◌==◌, min, nat_lt, nat_le, bit_and, bit_or, if◌then◌else◌, Bool, true, false, List, ◌++◌, length, take, drop, replicate, slice_get, slice_set, Option, None, Some, Result, Ok, Err}
use Rattle.std.specs.List.{sum_by, position, remove}
use Rattle.std.specs.Option.{option_map_or, unwrap_or}
use Rattle.fuse_words.specs.Replies.{status_message, attributes_message, open_message, written_message, data_message}
use Rattle.fuse_words.specs.declared.attribute_changes.AttributeChanges.{AttributeChanges}
use Rattle.fuse_words.specs.declared.operation.Operation.{Operation}
use Rattle.fuse_words.specs.declared.operation.Operation.TheVariants as operations
use Rattle.fuse_words.specs.declared.reply.Attributes.{Attributes}
use Rattle.fuse_words.specs.declared.request.Header.{Header}
use Rattle.pdp_words.specs.Steps.{and_then}
use Rattle.vol_dir.specs.declared.refusal.Refusal.TheVariants as refusals
use Rattle.vol_file.specs.Changes.{spliced}
use Rattle.vol_serve.specs.declared.nodes.fault.NodeFault.TheVariants as faults
use Rattle.vol_serve.specs.declared.errno.RequestRefusal.TheVariants as requests
use Rattle.vol_mounted.specs.Plans.{set_time}
use Rattle.vol_mounted.specs.Refusals.{no_node, no_space}
use Rattle.vol_mounted.specs.Replies.{count_of}
use Rattle.vol_mounted.specs.declared.orphan.Limits.{Limits}
use Rattle.vol_mounted.specs.declared.refusal.MountedRefusal.{MountedRefusal}
use Rattle.vol_mounted.specs.declared.refusal.MountedRefusal.TheVariants as mounted

-- a file without a name: the number of its node, its attributes, its bytes, and the number of times that it is open (this project)
pub record KeptFile : Type 0 where
  pub node : ℕ
  pub attributes : Attributes
  pub content : List ℕ
  pub opened : ℕ

-- the number of bytes of a file without a name (this project)
abbrev pub size_of : KeptFile → ℕ
size_of file = length file.content

-- the number of bytes of some files without a name (this project)
abbrev pub held_by : List KeptFile → ℕ
held_by files = sum_by size_of files

-- the number of bytes of a file without a name, if there is one (this project)
abbrev pub size_if : Option KeptFile → ℕ
size_if None = 0
size_if (Some file) = size_of file

-- the index of the first file with this node number, if there is one (this project)
abbrev pub place_of : ℕ → List KeptFile → Option ℕ
place_of node files = position (λ (file : KeptFile). file.node == node) files

-- the size that a file with these bytes gets; or the refusal, if no file can have it or there is no room for it (errno.h: EFBIG, ENOSPC)
abbrev pub fitted : Limits → List ℕ → ℕ → Result ℕ MountedRefusal
fitted limits bytes size =
    if nat_lt limits.greatest size then Err (mounted.Call refusals.TooBig)
    else if nat_lt limits.spare (size - length bytes) then Err no_space
    else Ok size

-- some bytes, cut to a size or lengthened with zeros (truncate)
abbrev pub resized : List ℕ → ℕ → List ℕ
resized bytes size = take size bytes ++ replicate (size - length bytes) 0

-- the file after SETATTR of its size, if one is given, or the refusal (truncate)
abbrev pub sized : Limits → Option ℕ → KeptFile → Result KeptFile MountedRefusal
sized limits None file = Ok file
sized limits (Some size) file = and_then (fitted limits file.content size) (λ size. Ok (record file { content = resized file.content size }))

-- the file after a write of some bytes at an offset, with zeros in a gap, or the refusal; a write of no bytes changes nothing (write)
abbrev pub written : Limits → ℕ → List ℕ → KeptFile → Result KeptFile MountedRefusal
written limits offset bytes file =
    if length bytes == 0 then Ok file
    else and_then (fitted limits file.content (offset + length bytes)) (λ end. Ok (record file { content = spliced file.content offset bytes }))

-- the attributes after SETATTR of all but the size: those that are given; the type of a mode stays (chmod; chown; utimensat)
abbrev pub given_attributes : ℕ → AttributeChanges → Attributes → Attributes
given_attributes now changes attributes = record attributes {
  mode = option_map_or (λ mode. bit_or (bit_and attributes.mode 61440) (mode % 4096)) changes.mode attributes.mode;
  uid = unwrap_or changes.uid attributes.uid;
  gid = unwrap_or changes.gid attributes.gid;
  accessed = set_time now attributes.accessed changes.accessed;
  modified = set_time now attributes.modified changes.modified;
}

-- the attributes of a file without a name as they are replied, with its present size (fuse_attr)
abbrev pub present_attributes : KeptFile → Attributes
present_attributes file = record file.attributes { size = length file.content; blocks = (length file.content + 511) / 512 }

-- a file without a name after an operation on it other than RELEASE, or the refusal (fuse_opcode)
unfoldable pub file_after : Limits → ℕ → Operation → KeptFile → Result KeptFile MountedRefusal
file_after limits now operations.GetAttr file = Ok file
file_after limits now (operations.SetAttr changes) file =
    and_then (sized limits changes.size file) (λ (file : KeptFile). Ok (record file { attributes = given_attributes now changes file.attributes }))
file_after limits now (operations.Read handle offset size) file = Ok file
file_after limits now (operations.Write handle offset bytes) file = written limits offset bytes file
file_after limits now (operations.Open flags) file = Ok (record file { opened = min (2 ^ 32 - 1) (file.opened + 1) })
file_after limits now (operations.Fsync handle) file = Ok file
file_after limits now (operations.Link node name) file = Err (no_node faults.NoEntry)
file_after limits now operation file = Err (mounted.Request requests.Unserved)

-- the reply to an operation on a file without a name, after the operation (fuse_opcode)
unfoldable pub file_reply : ℕ → Operation → KeptFile → List ℕ
file_reply unique operations.GetAttr file = attributes_message unique 3600 (present_attributes file)
file_reply unique (operations.SetAttr changes) file = attributes_message unique 3600 (present_attributes file)
file_reply unique (operations.Read handle offset size) file = data_message unique (take (min 131072 size) (drop offset file.content))
file_reply unique (operations.Write handle offset bytes) file = written_message unique (count_of bytes)
file_reply unique (operations.Open flags) file = open_message unique 0 2
file_reply unique operation file = status_message unique 0

-- files without a name, and a reply (this project)
pub record FilesReplied : Type 0 where
  pub files : List KeptFile
  pub reply : List ℕ

-- the files after an operation other than RELEASE on the one at some index, with the reply, or the refusal (this project)
abbrev pub replied_at : Limits → ℕ → ℕ → Operation → List KeptFile → ℕ → KeptFile → Result FilesReplied MountedRefusal
replied_at limits now unique operation files place file =
    and_then (file_after limits now operation file) (λ (after : KeptFile).
    Ok (record { files = slice_set files place after; reply = file_reply unique operation after }))

-- the files after one of them was closed once; the last time frees it (close)
abbrev pub closed_at : List KeptFile → ℕ → KeptFile → List KeptFile
closed_at files place file = if nat_le file.opened 1 then remove files place else slice_set files place (record file { opened = file.opened - 1 })

-- the file with this node number, with its index, if there is one (this project)
abbrev pub with_file : {X : Type 0} → ℕ → List KeptFile → X → (ℕ → KeptFile → X) → X
with_file node files missing next =
    option_map_or (λ (place : ℕ). option_map_or (next place) (slice_get files place) missing) (place_of node files) missing

-- the files after the one with this node number was closed once (close)
abbrev pub closed_once : ℕ → List KeptFile → List KeptFile
closed_once node files = with_file node files files (closed_at files)

-- true for RELEASE (fuse_opcode)
abbrev pub is_release : Operation → Bool
is_release (operations.Release handle) = true
is_release operation = false

-- the files after an operation on one of them, with the reply, or the refusal; RELEASE closes the file once (fuse_opcode)
abbrev pub files_after : Limits → ℕ → Header → Operation → List KeptFile → Result FilesReplied MountedRefusal
files_after limits now header operation files =
    if is_release operation then Ok (record { files = closed_once header.node files; reply = status_message header.unique 0 })
    else with_file header.node files (Err (no_node faults.Stale)) (replied_at limits now header.unique operation files)
