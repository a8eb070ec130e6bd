use Rattle.std.proofs.Common.{refl}
use Rattle.command_faults.proofs.Concluded.{concluded}
use Rattle.command_changes.proofs.change.do_change.Goals as goal

pub returns-clause-outcome : goal.returns-clause-outcome
returns-clause-outcome g c = concluded _ _ _ _ _ _ c.perform.ensures c.conclude-answer.ensures.made c.conclude-answer.ensures.fault refl
