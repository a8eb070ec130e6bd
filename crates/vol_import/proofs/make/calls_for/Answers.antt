use Rattle.std.proofs.Common.{ap}
use Rattle.vol_import.specs.Make.{told}
use Rattle.vol_import.proofs.ImportFaults.{plan_told}
use Rattle.vol_import.proofs.make.calls_for.Goals as goal

pub returns-in-Ok-clause-ok : goal.returns-in-Ok-clause-ok
returns-in-Ok-clause-ok c = ap told c.in-Ok.ensures.ok

pub returns-in-Err-clause-fault : goal.returns-in-Err-clause-fault
returns-in-Err-clause-fault c = plan_told _ _ _ c.in-Err.ensures.fault c.unplanned.ensures
