use Rattle.command_reads.proofs.BadLaws.{bad_files_right}
use Rattle.command_reads.proofs.laws.bad_files_are_right.Goals as goal

pub returns : goal.returns
returns c = bad_files_right
