use Rattle.std.proofs.Common.{map, take}
use Rattle.command_copies.specs.Nodes.{copied_as}
use Rattle.command_copies.specs.Trees.{AreTreesRead}
use Rattle.command_copies.proofs.trees.read_trees.Given as goal

-- Invariant: the trees at the paths so far have been read.
abbrev pub invariant-paths : goal.invariant-paths
invariant-paths l = AreTreesRead l.geometry l.image (map (λ path. path.now) (take l.path-index l.paths)) (map copied_as l.read.nodes.items) l.read.lines.items
