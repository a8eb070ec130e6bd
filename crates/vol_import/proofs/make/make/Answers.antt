use Rattle.vol_import.proofs.ImportFaults.{stop_told}
use Rattle.vol_import.proofs.make.make.Goals as goal

pub returns-in-Err-clause-fault : goal.returns-in-Err-clause-fault
returns-in-Err-clause-fault c = stop_told _ _ _ _ _ _ c.in-Err.ensures.refused c.stopped.ensures
