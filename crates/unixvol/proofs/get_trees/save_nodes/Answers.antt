use Rattle.std.proofs.Common.{arith, subst}
use Rattle.std.proofs.lemmas.List.{take_all}
use Rattle.std.proofs.lemmas.List.Elements.{All-more}
use Rattle.command_copies.specs.declared.nodes.NodeRead.{NodeRead}
use Rattle.host_files.specs.Save.{IsTaken}
use Rattle.unixvol.specs.Copies.{AreCopied, IsCopied}
use Rattle.unixvol.proofs.get_trees.save_nodes.Goals as goal

pub nodes-preserved : goal.nodes-preserved
nodes-preserved g c =
    All-more (λ (node : NodeRead). IsCopied (IsTaken g.R.File.Write.contents) g.R.ImageFiles.stood node.content) c.args.nodes.now c.nodes.node-index c.node-item.result
    (omega arith) c.nodes.invariant
    (subst (λ (node : NodeRead). IsCopied (IsTaken g.R.File.Write.contents) g.R.ImageFiles.stood node.content) c.node-item.is c.in_ok-save_node.ensures.saved)

pub returns-clause-saved : goal.returns-clause-saved
returns-clause-saved g c =
    subst (AreCopied (IsTaken g.R.File.Write.contents) g.R.ImageFiles.stood) (take_all c.nodes.node-index c.args.nodes.now (omega arith)) c.nodes.invariant
