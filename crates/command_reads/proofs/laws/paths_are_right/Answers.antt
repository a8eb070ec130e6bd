use Rattle.command_reads.proofs.RightPaths.{paths_right}
use Rattle.command_reads.proofs.laws.paths_are_right.Goals as goal

pub returns : goal.returns
returns c = paths_right
