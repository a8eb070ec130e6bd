use Rattle.command_reads.proofs.CutExports.{exports_right}
use Rattle.command_reads.proofs.laws.cut_exports_are_right.Goals as goal

pub returns : goal.returns
returns c = exports_right
