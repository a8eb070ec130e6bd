use Rattle.std.proofs.Common.{◌≡◌, map}
use Rattle.std.specs.List.{range_with_len}
use Rattle.vol_fields.specs.Roles.{role_of}
use Rattle.vol_fields.proofs.role_table.block_roles.Given as goal

-- Invariant: the roles of the blocks before `b` have been added.
abbrev pub invariant-loop-b : goal.invariant-loop-b
invariant-loop-b l = l.roles.items ≡ map (role_of l.geometry l.image) (range_with_len 0 l.b)
