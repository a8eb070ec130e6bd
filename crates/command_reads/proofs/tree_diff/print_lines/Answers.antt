use Rattle.std.proofs.Common.{refl}
use Rattle.vol_compare.specs.Merge.{tree_lines}
use Rattle.command_reads.proofs.Trees.{printed_trees}
use Rattle.command_reads.proofs.tree_diff.print_lines.Goals as goal

pub returns : goal.returns
returns g c =
    printed_trees _ (tree_lines c.args.times c.args.trees.old c.args.trees.new) c.args.trees.remarks.lines.items c.ending_of.result.status c.ending_of.result.fault
    c.put_differences-differ.result c.put_differences-differ.ensures.written c.put_differences-differ.ensures.differs c.ending_of.ensures.status
    c.ending_of.ensures.said c.ending_of.ensures.fault refl
