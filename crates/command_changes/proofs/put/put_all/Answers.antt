use Rattle.std.proofs.Common.{refl}
use Rattle.command_faults.proofs.Concluded.{concluded}
use Rattle.command_changes.proofs.put.put_all.Goals as goal

pub returns-clause-outcome : goal.returns-clause-outcome
returns-clause-outcome g c = concluded _ _ _ _ _ _ c.put_files.ensures c.conclude-answer.ensures.made c.conclude-answer.ensures.fault refl
