use Rattle.command_reads.proofs.BadLaws.{found_paths_right}
use Rattle.command_reads.proofs.laws.found_paths_lead_right.Goals as goal

pub returns : goal.returns
returns c = found_paths_right
