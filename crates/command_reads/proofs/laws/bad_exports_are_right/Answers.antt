use Rattle.command_reads.proofs.BadLooks.{bad_exports_right}
use Rattle.command_reads.proofs.laws.bad_exports_are_right.Goals as goal

pub returns : goal.returns
returns c = bad_exports_right
