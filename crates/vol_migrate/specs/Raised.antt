-- A volume of the sixth edition, raised to the seventh.
use Rattle.std.specs.Prelude.{ℕ, ◌+◌, ◌-◌, ◌%◌, ◌==◌, if◌then◌else◌, Bool, false, List, ◌∷◌, map, replicate, slice_index, Option, Some}
use Rattle.std.specs.List.{filter, range_with_len}
use Rattle.std.specs.Option.{option_map, option_map_or}
use Rattle.vol_layout.specs.BlockMaps.{last_place}
use Rattle.vol_layout.specs.Inode.{device_type, is_block_type}
use Rattle.vol_layout.specs.Slot.{name_of, padded_name}
use Rattle.vol_layout.specs.declared.edition.Edition.TheVariants.{V6, V7}
use Rattle.vol_layout.specs.declared.block_map.BlockMap.TheVariants.{Deep}
use Rattle.vol_layout.specs.declared.mode.DeviceKind.TheVariants as devices
use Rattle.vol_layout.specs.declared.slot.Slot.{Slot}
use Rattle.vol_file.specs.Changes.{whole_blocks}
use Rattle.vol_file.specs.Shape.{is_on_ways}
use Rattle.vol_dir.specs.Names.{Names}
use Rattle.vol_dir.specs.Tree.{Body, Directory, Device, Content, Node, Shape, State, form_in}
use Rattle.vol_mkfs.specs.Mkfs.{volume_of}

-- the map of a directory, with each i-number one higher: the seventh edition reserves i-number 1 for bad blocks (this project)
abbrev pub raised_names : Names → Names
raised_names names = map (λ (entry : List ℕ × ℕ). (entry.0, entry.1 + 1)) names

-- the type bits of a special file: those of the seventh edition for its kind, block or character (manual section 5 of the sixth edition, file system;
-- stat.h of the seventh)
abbrev pub raised_type : ℕ → ℕ
raised_type type = if is_block_type type then device_type V7 devices.Block else device_type V7 devices.Character

-- the addresses of a special file: the number of its device, the low 16 bits of its first address, and no other (ino.h)
abbrev pub raised_device : List ℕ → List ℕ
raised_device addresses = (slice_index addresses 0 % 65536) ∷ replicate 12 0

-- the content of a node: the bytes of a regular file are unchanged, and a special file keeps its kind and the number of its device (this project)
abbrev pub raised_content : Content → Content
raised_content (Body bytes) = Body bytes
raised_content (Directory names) = Directory (raised_names names)
raised_content (Device type addresses) = Device (raised_type type) (raised_device addresses)

-- a node: its i-node was last changed at the given time, and the rest is unchanged (this project)
abbrev pub raised_node : ℕ → Node → Node
raised_node now node = record node { content = raised_content node.content; changed = Some now }

-- the size of a node, if there is one (manual section 5, file system)
abbrev pub size_in : Option Node → ℕ
size_in node = option_map_or (λ (some : Node). some.size) node 0

-- true if a file of this shape stores logical block `b` in the sixth edition (Lions on bmap)
abbrev pub names_block : Shape → ℕ → Bool
names_block shape b = option_map_or shape.names (last_place (form_in V6 shape.large) b) false

-- the stored blocks among the first `n` logical blocks of a file (Lions on bmap)
abbrev pub stored_blocks : Shape → ℕ → List ℕ
stored_blocks shape n = filter (names_block shape) (range_with_len 0 n)

-- the shape of a file in the seventh edition: exactly the block-map positions on the paths of the stored logical blocks within its size point to
-- blocks; the slots keep their names (this project)
abbrev pub raised_shape : ℕ → Shape → Shape
raised_shape size shape = record {
  names = is_on_ways Deep (stored_blocks shape (whole_blocks size));
  large = false;
  slots = shape.slots;
}

-- a tree with its shapes, raised: each node is under the next i-number, and i-number 1 is free (this project)
abbrev pub raised : State → ℕ → ℕ → ℕ → State
raised state blocks list_blocks now = record {
  tree = record {
    geometry = volume_of V7 blocks list_blocks;
    time = now;
    nodes = λ i. option_map (raised_node now) (state.tree.nodes (i - 1));
  };
  shapes = λ i. raised_shape (size_in (state.tree.nodes (i - 1))) (state.shapes (i - 1));
}

-- a slot, raised: an empty slot gets an empty name, any other gets the next i-number and zeros after its name (this project)
abbrev pub raised_slot : Slot → Slot
raised_slot slot =
    if slot.inode == 0 then record { inode = 0; name = replicate 14 0 }
    else record { inode = slot.inode + 1; name = padded_name (name_of slot.name) }
