use Rattle.std.proofs.Common.{◌≡◌, ◌++◌, map, take}
use Rattle.std.specs.List.{flat_map}
use Rattle.command_copies.specs.Nodes.{copied_as}
use Rattle.command_copies.specs.Trees.{entry_line, entry_nodes}
use Rattle.command_copies.proofs.trees.push_founds.Given as goal

-- Invariant: what is copied of the entries so far has been appended, and the lines about the others.
abbrev pub invariant-founds : goal.invariant-founds
invariant-founds l =
    (map copied_as l.into.nodes.items ≡ map copied_as l.initial.into.nodes.items ++ flat_map (entry_nodes l.geometry l.image l.name) (take l.found-index l.founds))
    × (l.into.lines.items ≡ l.initial.into.lines.items ++ flat_map (entry_line l.geometry l.image l.name l.top) (take l.found-index l.founds))
