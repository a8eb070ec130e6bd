use Rattle.command_reads.proofs.BadLaws.{bad_findings_right}
use Rattle.command_reads.proofs.laws.bad_findings_are_right.Goals as goal

pub returns : goal.returns
returns c = bad_findings_right
