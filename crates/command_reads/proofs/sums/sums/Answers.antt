use Rattle.command_reads.proofs.SummedPlainly.{summed_plainly}
use Rattle.command_reads.proofs.sums.sums.Goals as goal

pub returns : goal.returns
returns c = summed_plainly c.args.edition c.args.image.now c.args.path.now c.args.form c.args.lost c.sums_of.result c.sums_of.ensures
