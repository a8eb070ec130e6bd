-- The answer follows from the kind of the node.
use Rattle.std.proofs.Common.{◌∙◌, sym, ap}
use Rattle.vol_migrate.proofs.Refused.{node_here, is_node}
use Rattle.vol_migrate.proofs.refuse.is_node.Goals as goal

pub returns-in-Special : goal.returns-in-Special
returns-in-Special c = ap is_node c.in-Special.ensures ∙ sym (node_here c.args.geometry.now c.args.image.now c.args.i c.requires.first c.requires.last)

pub returns-in-Free : goal.returns-in-Free
returns-in-Free c = ap is_node c.in-Free.ensures ∙ sym (node_here c.args.geometry.now c.args.image.now c.args.i c.requires.first c.requires.last)

pub returns-in-Regular : goal.returns-in-Regular
returns-in-Regular c = ap is_node c.in-Regular.ensures ∙ sym (node_here c.args.geometry.now c.args.image.now c.args.i c.requires.first c.requires.last)

pub returns-in-Directory : goal.returns-in-Directory
returns-in-Directory c = ap is_node c.in-Directory.ensures ∙ sym (node_here c.args.geometry.now c.args.image.now c.args.i c.requires.first c.requires.last)

pub returns-in-Odd : goal.returns-in-Odd
returns-in-Odd c = ap is_node c.in-Odd.ensures ∙ sym (node_here c.args.geometry.now c.args.image.now c.args.i c.requires.first c.requires.last)
