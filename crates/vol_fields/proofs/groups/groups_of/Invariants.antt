use Rattle.std.proofs.Common.{◌-◌, ◌≤◌, length}
use Rattle.vol_fields.specs.Groups.{AreGroupsUpTo, AreGroupsWithin}
use Rattle.vol_fields.proofs.groups.groups_of.Given as goal

-- Invariant: the groups of the entries before `n` have been added.
abbrev pub invariant-loop-n : goal.invariant-loop-n
invariant-loop-n l = record {
  within : l.n ≤ length l.joins;
  added : AreGroupsUpTo l.joins l.least 0 l.n l.groups.items;
  inside : AreGroupsWithin (length l.joins) l.groups.items;
}

abbrev pub decreases-loop-n : goal.decreases-loop-n
decreases-loop-n l = length l.joins - l.n
