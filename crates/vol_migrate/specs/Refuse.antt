-- The reasons not to migrate a volume.
use Rattle.std.specs.Prelude.{ℕ, ◌+◌, ◌-◌, ◌*◌, ◌==◌, ◌&&◌, ◌||◌, Bool, true, false, not, nat_lt, if◌then◌else◌, List, drop, Option, None, Some}
use Rattle.std.specs.List.{list_all, list_any, sum_by, range_with_len}
use Rattle.std.specs.Option.{option_map_or}
use Rattle.vol_layout.specs.Inode.{device_type}
use Rattle.vol_layout.specs.declared.edition.Edition.{Edition}
use Rattle.vol_layout.specs.declared.edition.Edition.TheVariants.{V6, V7}
use Rattle.vol_layout.specs.declared.mode.DeviceKind.TheVariants as kinds
use Rattle.vol_dir.specs.Tree.{Body, Directory, Device, Content, Node, Tree, State, place_count}
use Rattle.vol_mkfs.specs.Mkfs.{is_size}
use Rattle.vol_migrate.specs.Raised.{raised_shape, size_in}
use Rattle.vol_migrate.specs.declared.devices.Devices.{Devices}
use Rattle.vol_migrate.specs.declared.devices.Devices.TheVariants.{Refuse, Keep}
use Rattle.vol_migrate.specs.declared.fault.MigrateFault.{MigrateFault}
use Rattle.vol_migrate.specs.declared.fault.MigrateFault.TheVariants as faults

-- true if a special file with these type bits and addresses is kept: this is asked for, the type is one of the two of a new special file, and all
-- addresses but the first are 0 (this project)
abbrev pub keeps : Devices → ℕ → List ℕ → Bool
keeps Refuse type addresses = false
keeps Keep type addresses =
    ((type == device_type V6 kinds.Character) || (type == device_type V6 kinds.Block)) && list_all (λ a. a == 0) (drop 1 addresses)

-- true if content is that of a special file that isn't kept (this project)
abbrev pub is_refused : Devices → Content → Bool
is_refused devices (Body bytes) = false
is_refused devices (Directory names) = false
is_refused devices (Device type addresses) = not (keeps devices type addresses)

-- true if node `i` of a tree exists and is a special file that isn't kept (this project)
abbrev pub is_refused_at : Devices → Tree → ℕ → Bool
is_refused_at devices tree i = option_map_or (λ (node : Node). is_refused devices node.content) (tree.nodes i) false

-- true if a tree has a special file that isn't kept (this project)
abbrev pub has_refused : Devices → Tree → Bool
has_refused devices tree = list_any (is_refused_at devices tree) (range_with_len 1 tree.geometry.last_inode)

-- true if a tree has a node `i` (manual section 5, file system)
abbrev pub is_node_at : Tree → ℕ → Bool
is_node_at tree i = option_map_or (λ (node : Node). true) (tree.nodes i) false

-- true if a tree has a node `i`, and `i` + 1 is above `last` (this project)
abbrev pub is_above_at : Tree → ℕ → ℕ → Bool
is_above_at tree last i = nat_lt last (i + 1) && is_node_at tree i

-- true if a tree has a node whose i-number plus one is above `last` (this project)
abbrev pub has_above : Tree → ℕ → Bool
has_above tree last = list_any (is_above_at tree last) (range_with_len 1 tree.geometry.last_inode)

-- the number of block-map positions of all files that point to blocks once the files are in the seventh edition (icheck)
unfoldable pub places_needed : State → ℕ
places_needed state =
    sum_by (λ i. place_count V7 (raised_shape (size_in (state.tree.nodes i)) (state.shapes i))) (range_with_len 1 state.tree.geometry.last_inode)

-- the first reason not to migrate a volume of this edition to a volume of these sizes, if there is one (this project)
abbrev pub refusal : Edition → State → ℕ → ℕ → Devices → Option MigrateFault
refusal V7 state blocks list_blocks devices = Some faults.Invalid
refusal V6 state blocks list_blocks devices =
    if is_size V7 blocks list_blocks then
    (if has_refused devices state.tree then Some faults.HasDevice
    else if has_above state.tree (8 * list_blocks) then Some faults.NoInode
    else if nat_lt (blocks - (list_blocks + 2)) (places_needed state) then Some faults.NoSpace
    else None)
    else Some faults.Bounds
