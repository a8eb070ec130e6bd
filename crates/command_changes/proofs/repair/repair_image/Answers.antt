-- The fault has the line for its reason, or for out of memory, which can come at any time.
use Rattle.std.proofs.Common.{inl, inr}
use Rattle.vol_repair.specs.declared.repaired_volume.RepairFault.TheVariants as repairs
use Rattle.command_changes.proofs.repair.repair_image.Goals as goal

pub returns-in-Err-clause-fault : goal.returns-in-Err-clause-fault
returns-in-Err-clause-fault c =
    elim c.unrepaired.ensures [
      | inl tells ↦ (c.in-Err.why, c.in-Err.ensures.fault, tells)
      | inr tells ↦ (repairs.NoMemory, tt, tells)
    ]
