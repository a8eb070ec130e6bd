-- Requests, field by field. (Linux, include/uapi/linux/fuse.h; numbers have the processor's byte order, here the low byte first.)
use Rattle.std.specs.Prelude.{ℕ, Bool, not, ◌+◌, ◌==◌, ◌||◌, nat_lt, bit_and, if◌then◌else◌, List, length, take, drop, Option, None, Some, Result, Ok, Err}
use Rattle.std.specs.List.{position}
use Rattle.std.specs.Option.{option_map}
use Rattle.byteorder.specs.Endian.{little_number}
use Rattle.fuse_words.specs.declared.attribute_changes.AttributeChanges.{AttributeChanges}
use Rattle.fuse_words.specs.declared.attribute_changes.NewTime.{NewTime}
use Rattle.fuse_words.specs.declared.attribute_changes.NewTime.TheVariants as times
use Rattle.fuse_words.specs.declared.operation.Operation.{Operation}
use Rattle.fuse_words.specs.declared.operation.Operation.TheVariants as operations
use Rattle.fuse_words.specs.declared.request.Header.{Header}
use Rattle.fuse_words.specs.declared.request.Request.{Request}
use Rattle.fuse_words.specs.declared.request.RequestFault.{RequestFault}
use Rattle.fuse_words.specs.declared.request.RequestFault.TheVariants as faults

-- the number of `width` bytes at byte `at` (fuse.h)
abbrev pub number : ℕ → ℕ → List ℕ → ℕ
number width at bytes = little_number width (drop at bytes)

-- the header at the beginning of bytes, if there are enough (fuse_in_header, 40 bytes; the last 4 are padding)
unfoldable pub header_of : List ℕ → Option Header
header_of bytes =
    if nat_lt (length bytes) 40 then None
    else Some (record {
      length = number 4 0 bytes;
      opcode = number 4 4 bytes;
      unique = number 8 8 bytes;
      node = number 8 16 bytes;
      uid = number 4 24 bytes;
      gid = number 4 28 bytes;
      pid = number 4 32 bytes;
    })

-- true if the kernel waits for a reply: not to FORGET, INTERRUPT, NOTIFY_REPLY and BATCH_FORGET (fuse_opcode; Linux, fs/fuse/dev.c)
abbrev pub wants_reply : ℕ → Bool
wants_reply opcode = not ((opcode == 2) || (opcode == 36) || (opcode == 41) || (opcode == 42))

-- the size in bytes of the struct that a body begins with, for operations whose struct is read: fuse_mkdir_in, fuse_rename_in, fuse_link_in and
-- fuse_open_in; fuse_getattr_in, fuse_mknod_in, fuse_fsync_in, the first form of fuse_init_in, and fuse_rename2_in; fuse_release_in and
-- fuse_flush_in; fuse_read_in and fuse_write_in; fuse_setattr_in (fuse.h)
abbrev pub struct_size : ℕ → ℕ
struct_size opcode =
    if (opcode == 9) || (opcode == 12) || (opcode == 13) || (opcode == 14) || (opcode == 27) then 8
    else if (opcode == 3) || (opcode == 8) || (opcode == 20) || (opcode == 26) || (opcode == 30) || (opcode == 45) then 16
    else if (opcode == 18) || (opcode == 25) || (opcode == 29) then 24
    else if (opcode == 15) || (opcode == 16) || (opcode == 28) then 40
    else if opcode == 4 then 88
    else 0

-- the bytes before a NUL, if it is the first one and nothing follows it (fuse.h: names are C strings)
abbrev pub name_before : List ℕ → Option ℕ → Option (List ℕ)
name_before body None = None
name_before body (Some end) = if end + 1 == length body then Some (take end body) else None

-- the name in a body (fuse.h: names are C strings)
abbrev pub name_of : List ℕ → Option (List ℕ)
name_of body = name_before body (position (λ b. b == 0) body)

-- the bytes before a NUL, and the name after it (fuse.h: names are C strings)
abbrev pub names_before : List ℕ → Option ℕ → Option (List ℕ × List ℕ)
names_before body None = None
names_before body (Some end) = option_map (λ second. (take end body, second)) (name_of (drop (end + 1) body))

-- the two names in a body (fuse.h: names are C strings)
abbrev pub names_of : List ℕ → Option (List ℕ × List ℕ)
names_of body = names_before body (position (λ b. b == 0) body)

-- a field of SETATTR, if its flag is set (fuse_setattr_in)
abbrev pub given : {X : Type 0} → ℕ → ℕ → X → Option X
given valid flag value = if bit_and valid flag == 0 then None else Some value

-- a time of SETATTR: the current time, if that flag is set (fuse_setattr_in)
abbrev pub new_time : ℕ → ℕ → ℕ → NewTime
new_time valid now seconds = if bit_and valid now == 0 then times.At seconds else times.Now

-- SETATTR's changes, by the flags and the values of its fields (FATTR_MODE, FATTR_UID, FATTR_GID, FATTR_SIZE; FATTR_ATIME and FATTR_MTIME, each with
-- its _NOW)
abbrev pub changes_by : ℕ → ℕ → ℕ → ℕ → ℕ → ℕ → ℕ → AttributeChanges
changes_by valid size accessed modified mode uid gid = record {
  mode = given valid 1 mode;
  uid = given valid 2 uid;
  gid = given valid 4 gid;
  size = given valid 8 size;
  accessed = given valid 16 (new_time valid 128 accessed);
  modified = given valid 32 (new_time valid 256 modified);
}

-- the changes in SETATTR's body: valid, size, atime, mtime, mode, uid, gid (fuse_setattr_in)
unfoldable pub changes_of : List ℕ → AttributeChanges
changes_of body = changes_by (number 4 0 body) (number 8 16 body) (number 8 32 body) (number 8 40 body) (number 4 68 body) (number 4 76 body) (number 4 80 body)

-- true if an operation has one name: LOOKUP, MKNOD, MKDIR, UNLINK, RMDIR, LINK (fuse_opcode)
abbrev pub is_named : ℕ → Bool
is_named opcode = (opcode == 1) || (opcode == 8) || (opcode == 9) || (opcode == 10) || (opcode == 11) || (opcode == 13)

-- an operation with one name (fuse_opcode; fuse_mknod_in; fuse_mkdir_in; fuse_link_in)
unfoldable pub named : ℕ → List ℕ → List ℕ → Operation
named opcode body name =
    if opcode == 8 then operations.MkNod (number 4 0 body) (number 4 4 body) name
    else if opcode == 9 then operations.MkDir (number 4 0 body) name
    else if opcode == 10 then operations.Unlink name
    else if opcode == 11 then operations.RmDir name
    else if opcode == 13 then operations.Link (number 8 0 body) name
    else operations.Lookup name

-- true if an operation has two names: RENAME and RENAME2 (fuse_opcode)
abbrev pub is_rename : ℕ → Bool
is_rename opcode = (opcode == 12) || (opcode == 45)

-- an operation with two names (fuse_rename_in; fuse_rename2_in)
unfoldable pub renamed : ℕ → List ℕ → List ℕ × List ℕ → Operation
renamed opcode body names =
    if opcode == 12 then operations.Rename (number 8 0 body) names.0 names.1
    else operations.Rename2 (number 8 0 body) (number 4 8 body) names.0 names.1

-- WRITE, if the body has as many bytes as WRITE's size field counts (fuse_write_in)
abbrev pub write_of : List ℕ → Option Operation
write_of body =
    if number 4 16 body == length (drop 40 body) then Some (operations.Write (number 8 0 body) (number 8 8 body) (drop 40 body)) else None

-- an operation without a name (fuse_opcode; fuse_open_in; fuse_read_in; fuse_release_in; fuse_fsync_in; fuse_init_in)
unfoldable pub fields_of : ℕ → List ℕ → Operation
fields_of opcode body =
    if opcode == 2 then operations.Forget
    else if opcode == 3 then operations.GetAttr
    else if opcode == 4 then operations.SetAttr (changes_of body)
    else if opcode == 14 then operations.Open (number 4 0 body)
    else if opcode == 15 then operations.Read (number 8 0 body) (number 8 8 body) (number 4 16 body)
    else if opcode == 17 then operations.StatFs
    else if opcode == 18 then operations.Release (number 8 0 body)
    else if opcode == 20 then operations.Fsync (number 8 0 body)
    else if opcode == 25 then operations.Flush
    else if opcode == 26 then operations.Init (number 4 0 body) (number 4 4 body) (number 4 8 body) (number 4 12 body)
    else if opcode == 27 then operations.OpenDir
    else if opcode == 28 then operations.ReadDir (number 8 0 body) (number 8 8 body) (number 4 16 body)
    else if opcode == 29 then operations.ReleaseDir (number 8 0 body)
    else if opcode == 30 then operations.FsyncDir (number 8 0 body)
    else if opcode == 36 then operations.Interrupt
    else if opcode == 38 then operations.Destroy
    else if opcode == 42 then operations.BatchForget
    else operations.Other opcode

-- the operation in a body, if it has the operation's struct, its names and its bytes (fuse_opcode)
unfoldable pub operation_of : ℕ → List ℕ → Option Operation
operation_of opcode body =
    if nat_lt (length body) (struct_size opcode) then None
    else if is_named opcode then option_map (named opcode body) (name_of (drop (struct_size opcode) body))
    else if is_rename opcode then option_map (renamed opcode body) (names_of (drop (struct_size opcode) body))
    else if opcode == 16 then write_of body
    else Some (fields_of opcode body)

-- a request with this header, if its body holds an operation (this project)
abbrev pub with_operation : Header → Option Operation → Result Request RequestFault
with_operation header None = Err (faults.Body header)
with_operation header (Some operation) = Ok (record { header = header; operation = operation })

-- the request in some bytes with this header (one read(2) gives one whole request)
abbrev pub request_by : List ℕ → Option Header → Result Request RequestFault
request_by bytes None = Err faults.NoHeader
request_by bytes (Some header) =
    if header.length == length bytes then with_operation header (operation_of header.opcode (drop 40 bytes))
    else Err (faults.Length header)

-- the request in some bytes (fuse.h)
abbrev pub request_of : List ℕ → Result Request RequestFault
request_of bytes = request_by bytes (header_of bytes)
