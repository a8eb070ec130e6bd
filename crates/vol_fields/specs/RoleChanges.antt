-- The blocks whose roles differ between two images.
use Rattle.std.specs.Prelude.{ℕ, ◌+◌, ◌==◌, max, nat_lt, not, ◌&&◌, Bool, true, false, List, length, map, slice_index}
use Rattle.std.specs.List.{filter, range_with_len}
use Rattle.vol_fields.specs.Tables.{role_at}
use Rattle.vol_fields.specs.declared.role.Role.{Role}
use Rattle.vol_fields.specs.declared.role.Role.TheVariants as roles

-- true if the second role is the first one, `step` logical blocks further on; the sizes of files don't count (this project)
abbrev pub is_moved : ℕ → Role → Role → Bool
is_moved step (roles.Slots i l size) (roles.Slots j m other) = (i == j) && (l + step == m)
is_moved step (roles.Bytes i l size) (roles.Bytes j m other) = (i == j) && (l + step == m)
is_moved step (roles.Entries i v l) (roles.Entries j w m) = (i == j) && ((v == w) && (l + step == m))
is_moved step roles.Chain roles.Chain = true
is_moved step roles.Free roles.Free = true
is_moved step roles.Lost roles.Lost = true
is_moved step roles.Twice roles.Twice = true
is_moved step roles.System roles.System = true
is_moved step roles.System roles.Outside = true
is_moved step roles.Outside roles.System = true
is_moved step roles.Outside roles.Outside = true
is_moved step role other = false

-- true if the role of block b differs (this project)
abbrev pub is_changed : List Role → List Role → ℕ → Bool
is_changed old new b = not (is_moved 0 (role_at old b) (role_at new b))

-- the blocks whose roles differ (this project)
unfoldable pub changed_blocks : List Role → List Role → List ℕ
changed_blocks old new = filter (is_changed old new) (range_with_len 0 (max (length old) (length new)))

-- true if block b is the one after block a, and both its roles are the next ones (this project)
abbrev pub follows : List Role → List Role → ℕ → ℕ → Bool
follows old new a b = (a + 1 == b) && (is_moved 1 (role_at old a) (role_at old b) && is_moved 1 (role_at new a) (role_at new b))

-- true if the block at place k + 1 of a list has the changes of roles that follow those of the block at place k (this project)
abbrev pub is_block_joined : List Role → List Role → List ℕ → ℕ → Bool
is_block_joined old new blocks k = nat_lt (k + 1) (length blocks) && follows old new (slice_index blocks k) (slice_index blocks (k + 1))

-- the same for each place of a list (this project)
unfoldable pub block_joins : List Role → List Role → List ℕ → List Bool
block_joins old new blocks = map (is_block_joined old new blocks) (range_with_len 0 (length blocks))
