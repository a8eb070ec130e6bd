use Rattle.std.proofs.Common.{◌≡◌, map, take}
use Rattle.vol_archive.specs.Walk.{lost_entry}
use Rattle.vol_archive.proofs.names.lost_entries.Given as goal

-- Invariant: the entries of the i-nodes so far have been added.
abbrev pub invariant-lost : goal.invariant-lost
invariant-lost l = l.entries.items ≡ map lost_entry (take l.inode-index l.lost)
