-- Requests for the nodes of a tree by i-number.
use Rattle.std.specs.Prelude.{◌≡◌, ℕ, ◌≤◌, ◌/◌, ◌%◌, nat_lt, true, if◌then◌else◌, List, ◌++◌, length, drop, slice_index, Option, None, Some, Result, Ok, Err}
use Rattle.std.specs.Option.{is_some, option_map, option_map_or, ok_or}
use Rattle.vol_layout.specs.Inode.{inode_of, is_block_type}
use Rattle.vol_layout.specs.declared.geometry.Geometry.{Geometry}
use Rattle.vol_layout.specs.declared.mode.Kind.{Kind}
use Rattle.vol_file.specs.Rules.{kind_at}
use Rattle.vol_dir.specs.Names.{Names, get}
use Rattle.vol_dir.specs.Tree.{Content, Body, Directory, Device, Node, Tree, content_of, node_with, tree}
use Rattle.vol_dir.specs.Walk.{map_of}
use Rattle.vol_volume.specs.Answer.{stat_of, read_bytes}
use Rattle.vol_volume.specs.declared.queries.Stat.{Stat}
use Rattle.vol_serve.specs.declared.nodes.fault.NodeFault.{NodeFault}
use Rattle.vol_serve.specs.declared.nodes.fault.NodeFault.TheVariants as faults
use Rattle.vol_serve.specs.declared.nodes.stats.SpecialFile.{SpecialFile}

-- the attributes of node `i`, if there is one (stat)
abbrev pub stat_in : Tree → ℕ → Option Stat
stat_in tree i = option_map (stat_of i) (tree.nodes i)

-- the device of a special file: its kind from the type bits of its mode, and the major and minor numbers in the low 16 bits of its first address
-- (stat.h; ino.h; inode.h of the seventh edition)
abbrev pub special_of : Content → Option SpecialFile
special_of (Body bytes) = None
special_of (Directory names) = None
special_of (Device type addresses) =
    Some (record { is_block = is_block_type type; major = slice_index addresses 0 % 65536 / 256; minor = slice_index addresses 0 % 65536 % 256 })

-- the device of node `i`, if it is a special file (manual section 5, file system)
abbrev pub special_in : Tree → ℕ → Option SpecialFile
special_in tree i = option_map_or (λ (node : Node). special_of node.content) (tree.nodes i) None

-- i-number `i` has a node, whose i-node is of this kind (manual section 5, file system)
pub record HasNode (geometry : Geometry) (image : List ℕ) (i : ℕ) (kind : Kind) : Type 0 where
  pub first : 1 ≤ i
  pub last : i ≤ geometry.last_inode
  pub is : kind_at geometry image i ≡ kind
  pub some : is_some (content_of geometry image i kind) ≡ true
  pub node : (tree geometry image).nodes i ≡ option_map (node_with (inode_of geometry.edition image i)) (content_of geometry image i kind)

-- the result of the next step after an Ok, or the fault (this project)
abbrev pub after_ok : {X Y : Type 0} → Result X NodeFault → (X → Result Y NodeFault) → Result Y NodeFault
after_ok (Ok x) next = next x
after_ok (Err fault) next = Err fault

-- node `i`, or Stale if there is none (this project)
abbrev pub node_in : Tree → ℕ → Result Node NodeFault
node_in tree i = ok_or (tree.nodes i) faults.Stale

-- the map of directory `d`, or the fault if it isn't one (manual section 5, directories)
abbrev pub names_in : Tree → ℕ → Result Names NodeFault
names_in tree d = after_ok (node_in tree d) (λ node. ok_or (map_of node.content) faults.NotDirectory)

-- `i`, if it is the i-number of a node, else Stale (this project)
abbrev pub number_in : Tree → ℕ → Result ℕ NodeFault
number_in tree i = after_ok (node_in tree i) (λ node. Ok i)

-- the number of the node that a map has for a name; a name of more than 14 bytes is refused, not truncated (Lions on namei; the test of the length is this project's)
abbrev pub number_of : Tree → Names → List ℕ → Result ℕ NodeFault
number_of tree names name =
    if nat_lt 14 (length name) then Err faults.LongName else after_ok (ok_or (get names name) faults.NoEntry) (number_in tree)

-- the number of the node that a name leads to in directory `d`, or the fault if it leads to none (Lions on namei)
abbrev pub look_up : Tree → ℕ → List ℕ → Result ℕ NodeFault
look_up tree d name = after_ok (names_in tree d) (λ names. number_of tree names name)

-- the bytes of a regular file (manual section 5, file system)
abbrev pub bytes_of : Content → Option (List ℕ)
bytes_of (Body bytes) = Some bytes
bytes_of (Directory names) = None
bytes_of (Device type addresses) = None

-- the bytes of regular file `i`, or the fault if it isn't one (manual section 5, file system)
abbrev pub bytes_in : Tree → ℕ → Result (List ℕ) NodeFault
bytes_in tree i = after_ok (node_in tree i) (λ node. ok_or (bytes_of node.content) faults.NotRegular)

-- at most `len` bytes of regular file `i` starting at an offset, or the fault (Lions on readi)
abbrev pub read_in : Tree → ℕ → ℕ → ℕ → Result (List ℕ) NodeFault
read_in tree i offset len = after_ok (bytes_in tree i) (λ bytes. Ok (read_bytes bytes offset len))

-- the number of bytes that were read, or the fault (read)
abbrev pub count_of : Result (List ℕ) NodeFault → Result ℕ NodeFault
count_of read = after_ok read (λ bytes. Ok (length bytes))

-- a buffer after bytes were read into its start; unchanged if none were read (read)
abbrev pub filled : Result (List ℕ) NodeFault → List ℕ → List ℕ
filled (Ok bytes) buffer = bytes ++ drop (length bytes) buffer
filled (Err fault) buffer = buffer
