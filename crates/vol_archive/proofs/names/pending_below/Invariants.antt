use Rattle.std.proofs.Common.{◌≡◌, take}
use Rattle.std.specs.List.{flat_map}
use Rattle.vol_archive.specs.Walk.{entry_below}
use Rattle.vol_archive.proofs.names.pending_below.Given as goal

-- Invariant: the entries of the names so far have been added.
abbrev pub invariant-names : goal.invariant-names
invariant-names l = l.entries.items ≡ flat_map (entry_below l.path) (take l.name-index l.names)
