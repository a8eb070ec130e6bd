use Rattle.command_reads.proofs.RightUses.{bad_uses_right}
use Rattle.command_reads.proofs.laws.bad_uses_are_right.Goals as goal

pub returns : goal.returns
returns c = bad_uses_right
