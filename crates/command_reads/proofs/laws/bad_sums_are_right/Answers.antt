use Rattle.command_reads.proofs.BadLaws.{bad_sums_right}
use Rattle.command_reads.proofs.laws.bad_sums_are_right.Goals as goal

pub returns : goal.returns
returns c = bad_sums_right
