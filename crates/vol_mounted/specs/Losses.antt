-- The files that lose their last name while they are open.
use Rattle.std.specs.Prelude.{◌≡◌, ◌≢◌, ◌<◌, ◌≤◌, ℕ, ◌/◌, ◌==◌, ◌||◌, not, if◌then◌else◌, List, ◌++◌, replicate, slice_get, Option, None, Some, Result, Ok, Err}
use Rattle.std.specs.Option.{is_some, option_map, option_map_or, option_and_then, option_to_list}
use Rattle.fuse_words.specs.declared.operation.Operation.{Operation}
use Rattle.fuse_words.specs.declared.operation.Operation.TheVariants as operations
use Rattle.fuse_words.specs.declared.reply.Attributes.{Attributes}
use Rattle.fuse_words.specs.declared.request.Header.{Header}
use Rattle.vol_layout.specs.declared.geometry.Geometry.{Geometry}
use Rattle.vol_dir.specs.Tree.{tree}
use Rattle.vol_serve.specs.Nodes.{stat_in, look_up, read_in, filled}
use Rattle.vol_serve.specs.declared.nodes.fault.NodeFault.{NodeFault}
use Rattle.vol_serve.specs.Attributes.{attributes_in}
use Rattle.vol_mounted.specs.Numbers.{i_number, node_number}
use Rattle.vol_mounted.specs.Orphans.{KeptFile, size_if}
use Rattle.vol_mounted.specs.Plans.{Sight}
use Rattle.vol_mounted.specs.Refusals.{no_memory, no_space}
use Rattle.vol_mounted.specs.declared.known.KnownNode.{KnownNode}
use Rattle.vol_mounted.specs.declared.loss.Loss.{Loss}
use Rattle.vol_mounted.specs.declared.refusal.MountedRefusal.{MountedRefusal}

-- the number of times that the file of i-number i is open (open; close)
abbrev pub opened_at : List KnownNode → ℕ → ℕ
opened_at nodes i = option_map_or (λ (known : KnownNode). known.opened) (slice_get nodes i) 0

-- the number of bytes that are kept of a node that loses a name: all of them, if it is an open regular file without another name (unlink; stat.h:
-- S_IFREG)
abbrev pub kept_size : ℕ → Result Attributes NodeFault → ℕ
kept_size opened (Ok attributes) =
    if opened == 0 then 0 else if attributes.links == 1 then if attributes.mode / 4096 == 8 then attributes.size else 0 else 0
kept_size opened (Err fault) = 0

-- the node that a name leads to, if there is one (this project)
abbrev pub node_if : Result ℕ NodeFault → Option ℕ
node_if (Ok i) = Some i
node_if (Err fault) = None

-- the node that a name leads to in a directory, if there is such a directory (this project)
abbrev pub node_in : Sight → List ℕ → Option ℕ → Option ℕ
node_in sight name None = None
node_in sight name (Some d) = node_if (look_up (tree sight.geometry sight.image) d name)

-- the node that a name leads to in the directory with this node number, if there is one (this project)
abbrev pub node_named : Sight → ℕ → List ℕ → Option ℕ
node_named sight node name = node_in sight name (i_number sight.geometry.edition sight.nodes node)

-- the node that loses a name through an operation, if there is one: the file of UNLINK, or the one that a rename replaces (unlink; rename)
unfoldable pub lost_node : Sight → Header → Operation → Option ℕ
lost_node sight header (operations.Unlink name) = node_named sight header.node name
lost_node sight header (operations.Rename directory name new_name) = node_named sight directory new_name
lost_node sight header (operations.Rename2 directory flags name new_name) = node_named sight directory new_name
lost_node sight header operation = None

-- the number of bytes that are kept of node i when it loses a name (unlink)
abbrev pub kept_bytes : Sight → ℕ → ℕ
kept_bytes sight i = kept_size (opened_at sight.nodes i) (attributes_in (tree sight.geometry sight.image) i)

-- node i as it is kept in memory when it loses a name, if it is an open regular file without another name: with the bytes that are read of it, and no
-- links (unlink; stat.h: S_IFREG)
abbrev pub kept_of : Sight → ℕ → Result Attributes NodeFault → Option KeptFile
kept_of sight i (Ok attributes) =
    if (opened_at sight.nodes i == 0) || (not (attributes.links == 1) || not (attributes.mode / 4096 == 8)) then None
    else Some (record {
      node = node_number sight.geometry.edition sight.nodes i;
      attributes = record attributes { links = 0 };
      content = filled (read_in (tree sight.geometry sight.image) i 0 attributes.size) (replicate attributes.size 0);
      opened = opened_at sight.nodes i;
    })
kept_of sight i (Err fault) = None

-- node i as it is kept in memory when it loses a name, if it is kept (unlink)
abbrev pub kept_at : Sight → ℕ → Option KeptFile
kept_at sight i = kept_of sight i (attributes_in (tree sight.geometry sight.image) i)

-- the file that loses its last name through an operation, as it is kept in memory, if it is open (unlink; rename)
abbrev pub lost_file : Sight → Header → Operation → Option KeptFile
lost_file sight header operation = option_and_then (kept_at sight) (lost_node sight header operation)

-- the files without a name after a node lost a name: the file is kept, if the node was freed (unlink)
abbrev pub kept_after : Geometry → List ℕ → List KeptFile → Option ℕ → Option KeptFile → List KeptFile
kept_after geometry image files None file = files
kept_after geometry image files (Some i) file = if is_some (stat_in (tree geometry image) i) then files else files ++ option_to_list file

-- the number of bytes that are kept of the file that loses a name through an operation (unlink; rename)
abbrev pub lost_bytes : Sight → Header → Operation → ℕ
lost_bytes sight header operation = option_map_or (kept_bytes sight) (lost_node sight header operation) 0

-- the node that loses a name, if there is one (this project)
abbrev pub node_of : Option Loss → Option ℕ
node_of loss = option_map (λ (loss : Loss). loss.i) loss

-- the file that is kept in memory, if there is one (this project)
abbrev pub file_of : Option Loss → Option KeptFile
file_of loss = option_and_then (λ (loss : Loss). loss.orphan) loss

-- the number of bytes that are kept of a file that loses a name, if there is one (this project)
abbrev pub loss_size : Option Loss → ℕ
loss_size None = 0
loss_size (Some loss) = size_if loss.orphan

-- `count` bytes are kept, and there is room for them; or there isn't room, or memory ran out (errno.h: ENOSPC)
abbrev pub Keeps : {X : Type 0} → (X → ℕ) → ℕ → ℕ → Result X MountedRefusal → Type 0
Keeps size spare count (Ok kept) = (size kept ≡ count) × (count ≤ spare)
Keeps size spare count (Err refusal) = refusal ≢ no_memory → (refusal ≡ no_space) × (spare < count)
