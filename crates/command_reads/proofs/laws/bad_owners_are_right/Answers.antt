use Rattle.command_reads.proofs.RightOwners.{bad_owners_right}
use Rattle.command_reads.proofs.laws.bad_owners_are_right.Goals as goal

pub returns : goal.returns
returns c = bad_owners_right
