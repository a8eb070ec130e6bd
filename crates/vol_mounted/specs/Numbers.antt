-- The kernel's numbers of the nodes of a volume that changes.
use Rattle.std.specs.Prelude.{ℕ, ◌+◌, ◌-◌, ◌*◌, ◌^◌, min, nat_lt, ◌%◌, ◌==◌, if◌then◌else◌, List, slice_get, slice_set, Option, None, Some}
use Rattle.std.specs.Option.{option_map_or}
use Rattle.vol_layout.specs.Edition.{constants}
use Rattle.vol_layout.specs.Slot.{padded_name}
use Rattle.vol_layout.specs.declared.edition.Edition.{Edition}
use Rattle.vol_mounted.specs.declared.known.KnownNode.{KnownNode}

-- the number of times that an i-number was allocated, counted by this server (this project)
abbrev pub birth_at : List KnownNode → ℕ → ℕ
birth_at nodes i = option_map_or (λ (known : KnownNode). known.birth) (slice_get nodes i) 0

-- the number of the node with i-number i: 1 for the root; for others, the low 16 bits are the i-number, and the higher bits are the number of times
-- that it was allocated, counted up to 2^32 - 1 (FUSE_ROOT_ID; the rest is this project's)
abbrev pub node_number : Edition → List KnownNode → ℕ → ℕ
node_number edition nodes i = if i == (constants edition).root then 1 else 65536 * birth_at nodes i + i

-- the i-number of the node with this number, if a node has it now (this project)
abbrev pub i_number : Edition → List KnownNode → ℕ → Option ℕ
i_number edition nodes node =
    if node == 1 then Some (constants edition).root
    else if node_number edition nodes (node % 65536) == node then Some (node % 65536)
    else None

-- the records of all i-numbers, after the record of i-number i changed (this project)
abbrev pub with_known : List KnownNode → ℕ → (KnownNode → KnownNode) → List KnownNode
with_known nodes i change = option_map_or (λ (known : KnownNode). slice_set nodes i (change known)) (slice_get nodes i) nodes

-- the records after the node of i-number i was found by a name in a directory (this project)
abbrev pub met : List KnownNode → ℕ → ℕ → List ℕ → List KnownNode
met nodes i directory name = with_known nodes i (λ known.
    record known { directory = directory; slot = record { inode = i; name = padded_name name } })

-- the record of an i-number that was allocated again, for a new node, which isn't open (this project)
abbrev pub born : KnownNode → KnownNode
born known = record known { birth = if nat_lt known.birth (2 ^ 32 - 1) then known.birth + 1 else known.birth; opened = 0 }

-- the record after a file was opened once more (open)
abbrev pub opened : KnownNode → KnownNode
opened known = record known { opened = min (2 ^ 32 - 1) (known.opened + 1) }

-- the record after a file was closed once (close)
abbrev pub closed : KnownNode → KnownNode
closed known = record known { opened = known.opened - 1 }
