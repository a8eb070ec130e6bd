use Rattle.command_reads.proofs.BadLaws.{bad_bodies_right}
use Rattle.command_reads.proofs.laws.bad_bodies_are_right.Goals as goal

pub returns : goal.returns
returns c = bad_bodies_right
