use Rattle.std.proofs.Common.{inr}
use Rattle.command_reads.proofs.Printed.{told_only}
use Rattle.command_reads.proofs.Trees.{first_unmeasured, second_unmeasured, shows}
use Rattle.command_reads.proofs.tree_diff.show_tree_diff.Goals as goal

pub returns-in-Err : goal.returns-in-Err
returns-in-Err g c =
    inr (
      c.in-Err.fault,
      first_unmeasured c.args.edition c.args.old c.args.new c.from_bytes-before.result c.in-Err.fault c.from_bytes-before.ensures c.in-Err.ensures.fault,
      told_only c.from.ensures,
    )

pub returns-in-Err-measured : goal.returns-in-Err-measured
returns-in-Err-measured g c =
    inr (
      c.in-Err-measured.fault,
      second_unmeasured c.args.edition c.args.old c.args.new c.from_bytes-after.result c.in-Err-measured.fault c.from_bytes-after.ensures
          c.in-Err-measured.ensures.fault,
      told_only c.from-in-Err-measured.ensures,
    )

pub returns-in-Ok-trees_of : goal.returns-in-Ok-trees_of
returns-in-Ok-trees_of g c =
    shows c.args.form c.args.edition c.args.old c.args.new c.args.times
    _ c.print_trees.result.status c.in-Ok.geometry
    c.in-Ok-measured.geometry c.from_bytes-before.result c.from_bytes-after.result c.in-Ok-trees_of.trees.old c.in-Ok-trees_of.trees.new
    c.in-Ok-trees_of.trees.remarks.lines.items c.from_bytes-before.ensures c.from_bytes-after.ensures c.in-Ok.ensures.read
    c.in-Ok-measured.ensures.read c.in-Ok-trees_of.ensures.old c.in-Ok-trees_of.ensures.new c.in-Ok-trees_of.ensures.remarks
    c.print_trees.ensures

pub returns : goal.returns
returns g c =
    inr (
      c.from-in-Err-trees_of.result,
      inr (inr c.from-in-Err-trees_of.ensures),
      told_only c.from-in-Err-trees_of-2.ensures,
    )
