use Rattle.std.proofs.Common.{◌≡◌, map, take}
use Rattle.std.specs.List.{flat_map}
use Rattle.command_copies.specs.Lists.{saved_nodes}
use Rattle.command_copies.specs.Nodes.{copied_as}
use Rattle.command_copies.proofs.lists.nodes_of.Given as goal

-- Invariant: what is saved of the entries so far has been read.
abbrev pub invariant-founds : goal.invariant-founds
invariant-founds l = map copied_as l.nodes.items ≡ flat_map (saved_nodes l.geometry l.image) (take l.found-index l.founds)
