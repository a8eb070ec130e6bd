-- The values of fields, and what they mean.
use Rattle.std.specs.Prelude.{ℕ, ◌==◌, nat_lt, nat_le, ◌||◌, ◌&&◌, Bool, true, false, if◌then◌else◌, List, [], ◌++◌, length, map, take, drop, codes, decimal, Option, Some, None, slice_index}
use Rattle.std.specs.List.{list_all, position}
use Rattle.pdp_words.specs.Words.{word, long, addr3}
use Rattle.escaped_text.specs.Escape.{escaped}
use Rattle.vol_layout.specs.BlockPointers.{mode_of}
use Rattle.vol_layout.specs.Inode.{kind_of}
use Rattle.vol_layout.specs.declared.geometry.Geometry.{Geometry}
use Rattle.vol_layout.specs.declared.mode.Kind.{Kind}
use Rattle.vol_layout.specs.declared.mode.Kind.TheVariants as kinds
use Rattle.vol_inspect.specs.Texts.{kind_name, octal_text}
use Rattle.vol_fields.specs.Tables.{role_at}
use Rattle.vol_fields.specs.declared.runs.Spot.{Spot}
use Rattle.vol_fields.specs.declared.names.Name.{Name}
use Rattle.vol_fields.specs.declared.names.Name.TheVariants as names
use Rattle.vol_fields.specs.declared.names.ValueKind.{ValueKind}
use Rattle.vol_fields.specs.declared.names.ValueKind.TheVariants as values
use Rattle.vol_fields.specs.declared.role.Role.{Role}
use Rattle.vol_fields.specs.declared.role.Role.TheVariants as roles

-- the name of a field in the manuals, or the word for one that has none there (filsys.h; ino.h; fblk.h; this project)
abbrev pub label : Name → List ℕ
label names.Boot = codes "boot"
label names.Super = codes "super-block"
label names.Node = codes "i-node"
label names.Data = codes "data"
label names.Past = codes "past"
label names.ListSize = codes "isize"
label names.BlockCount = codes "fsize"
label names.FreeCount = codes "nfree"
label names.Free = codes "free"
label names.CacheCount = codes "ninode"
label names.Cached = codes "inode"
label names.FreeLock = codes "flock"
label names.InodeLock = codes "ilock"
label names.Modified = codes "fmod"
label names.ReadOnly = codes "ronly"
label names.Time = codes "time"
label names.Rest = codes "rest"
label names.Mode = codes "mode"
label names.Links = codes "nlink"
label names.Uid = codes "uid"
label names.Gid = codes "gid"
label names.Size = codes "size"
label names.Address = codes "addr"
label names.Unused = codes "unused"
label names.Accessed = codes "atime"
label names.Written = codes "mtime"
label names.Changed = codes "ctime"
label names.Slot = codes "slot"
label names.SlotInode = codes "i-number"
label names.SlotName = codes "name"
label names.Bytes = codes "bytes"
label names.Slack = codes "slack"
label names.Entry = codes "entry"

-- true if a field is one of an array of numbers (this project)
abbrev pub is_array : Name → Bool
is_array names.Free = true
is_array names.Cached = true
is_array names.Address = true
is_array names.Entry = true
is_array name = false

-- true if a field is part of a slot of a directory (manual section 5, directories)
abbrev pub is_in_slot : Name → Bool
is_in_slot names.SlotInode = true
is_in_slot names.SlotName = true
is_in_slot name = false

-- the kind of a field's value (manual section 5, file system)
abbrev pub value_kind : Name → ValueKind
value_kind names.ListSize = values.Number
value_kind names.BlockCount = values.Number
value_kind names.FreeCount = values.Number
value_kind names.CacheCount = values.Number
value_kind names.FreeLock = values.Number
value_kind names.InodeLock = values.Number
value_kind names.Modified = values.Number
value_kind names.ReadOnly = values.Number
value_kind names.Links = values.Number
value_kind names.Uid = values.Number
value_kind names.Gid = values.Number
value_kind names.Size = values.Number
value_kind names.Mode = values.Mode
value_kind names.Time = values.Moment
value_kind names.Accessed = values.Moment
value_kind names.Written = values.Moment
value_kind names.Changed = values.Moment
value_kind names.Cached = values.Inode
value_kind names.SlotInode = values.Inode
value_kind names.Free = values.Block
value_kind names.Address = values.Block
value_kind names.Entry = values.Block
value_kind names.SlotName = values.Name
value_kind name = values.Bytes

-- the number that a field of 1 to 4 bytes has (PDP-11; ino.h of the seventh edition)
abbrev pub number_in : List ℕ → Option ℕ
number_in bytes =
    if length bytes == 1 then Some (slice_index bytes 0)
    else if length bytes == 2 then Some (word bytes 0)
    else if length bytes == 3 then Some (addr3 bytes 0)
    else if length bytes == 4 then Some (long bytes 0)
    else None

-- a role, with the i-node and the position of the block (this project)
abbrev pub role_text : Role → List ℕ
role_text roles.System = codes "no data block"
role_text (roles.Slots ino logical size) = codes "directory " ++ (decimal ino ++ (codes ", logical " ++ decimal logical))
role_text (roles.Bytes ino logical size) = codes "data of i-node " ++ (decimal ino ++ (codes ", logical " ++ decimal logical))
role_text (roles.Entries ino level logical) =
    codes "pointers of i-node " ++ (decimal ino ++ (codes ", level " ++ (decimal level ++ (codes ", from logical " ++ decimal logical))))
role_text roles.Chain = codes "chain block"
role_text roles.Free = codes "free"
role_text roles.Lost = codes "lost"
role_text roles.Twice = codes "named twice"
role_text roles.Outside = codes "no data block"

-- the kind of i-node i; `Odd` if there is none with this number (manual section 5, file system)
abbrev pub kind_at : Geometry → List ℕ → ℕ → Kind
kind_at g image i = if nat_lt 0 i && nat_le i g.last_inode then kind_of g.edition (mode_of g image i) else kinds.Odd

-- the meaning of an i-number: the kind of the i-node (manual section 5, file system)
abbrev pub inode_meaning : Geometry → List ℕ → ℕ → List ℕ
inode_meaning g image n = if n == 0 then [] else if nat_lt g.last_inode n then codes "past the last" else kind_name (kind_at g image n)

-- true for a special file (manual section 5, file system)
abbrev pub is_special : Kind → Bool
is_special kinds.Special = true
is_special kind = false

-- true if a part is the i-node of a special file, whose first address is a device number (manual section 5, file system)
abbrev pub is_device : Geometry → List ℕ → Name → ℕ → Bool
is_device g image names.Node i = is_special (kind_at g image i)
is_device g image name i = false

-- a value, and its meaning if it has one (this project)
abbrev pub with_meaning : List ℕ → List ℕ → List ℕ
with_meaning value meaning = if length meaning == 0 then value else value ++ (codes "  " ++ meaning)

-- the meaning of a block number in a part: the role of the block; none for an address of a special file (this project)
abbrev pub pointer_meaning : Geometry → List Role → List ℕ → Spot → ℕ → List ℕ
pointer_meaning g table image part n = if n == 0 || is_device g image part.name part.index then [] else role_text (role_at table n)

-- a number in a part of an image, and what it means (this project)
abbrev pub number_text : Geometry → List Role → List ℕ → Spot → ValueKind → ℕ → List ℕ
number_text g table image part values.Mode n = octal_text n
number_text g table image part values.Inode n = with_meaning (decimal n) (inode_meaning g image n)
number_text g table image part values.Block n = with_meaning (decimal n) (pointer_meaning g table image part n)
number_text g table image part kind n = decimal n

-- a number if there is one, and what it means (this project)
abbrev pub numbers_text : Geometry → List Role → List ℕ → Spot → ValueKind → Option ℕ → List ℕ
numbers_text g table image part kind None = []
numbers_text g table image part kind (Some n) = number_text g table image part kind n

-- the bytes before the first zero, if that is at this place, but all of them if others than zeros follow it (manual section 5, directories)
abbrev pub name_before : List ℕ → Option ℕ → List ℕ
name_before bytes None = bytes
name_before bytes (Some end) = if list_all (λ c. c == 0) (drop end bytes) then take end bytes else bytes

-- a name in a slot: the bytes before its first zero, but all of them if others than zeros follow it (manual section 5, directories)
abbrev pub shown_name : List ℕ → List ℕ
shown_name bytes = name_before bytes (position (λ c. c == 0) bytes)

-- a byte as a character: a dot if it isn't printable ASCII (od)
abbrev pub character : ℕ → ℕ
character c = if nat_le 32 c && nat_lt c 127 then c else 46

-- bytes as characters; nothing if all are zero (od)
abbrev pub characters : List ℕ → List ℕ
characters bytes = if list_all (λ c. c == 0) bytes then [] else map character bytes

-- the value of a field in a part of an image, and what it means (this project)
abbrev pub value_text : Geometry → List Role → List ℕ → Spot → ValueKind → List ℕ → List ℕ
value_text g table image part values.Name bytes = escaped (shown_name bytes)
value_text g table image part values.Bytes bytes = characters bytes
value_text g table image part kind bytes = numbers_text g table image part kind (number_in bytes)
