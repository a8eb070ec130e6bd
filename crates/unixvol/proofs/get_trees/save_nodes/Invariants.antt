use Rattle.std.proofs.Common.{take}
use Rattle.host_files.specs.Save.{IsTaken}
use Rattle.unixvol.specs.Copies.{AreCopied}
use Rattle.unixvol.proofs.get_trees.save_nodes.Given as goal

-- Invariant: the nodes so far are saved.
abbrev pub invariant-nodes : goal.invariant-nodes
invariant-nodes g l = AreCopied (IsTaken g.R.File.Write.contents) g.R.ImageFiles.stood (take l.node-index l.nodes)
