use Rattle.command_reads.proofs.BadLaws.{bad_rows_right}
use Rattle.command_reads.proofs.laws.bad_rows_are_right.Goals as goal

pub returns : goal.returns
returns c = bad_rows_right
