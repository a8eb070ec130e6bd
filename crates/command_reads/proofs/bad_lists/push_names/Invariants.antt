use Rattle.std.proofs.Common.{◌≡◌, ◌++◌, take}
use Rattle.std.specs.List.{flat_map}
use Rattle.command_reads.specs.BadLists.{name_entries}
use Rattle.command_reads.proofs.bad_lists.push_names.Given as goal

-- Invariant: the names so far have been appended as entries.
abbrev pub invariant-names : goal.invariant-names
invariant-names l = l.founds.items ≡ l.initial.founds.items ++ flat_map (name_entries l.geometry l.image l.path) (take l.name-index l.names)
