-- The fault has the line for its reason, or for out of memory, which can come at any time.
use Rattle.std.proofs.Common.{inl, inr}
use Rattle.vol_resize.specs.declared.resized_volume.ResizeFault.TheVariants as resizes
use Rattle.command_changes.proofs.resize.resize_image.Goals as goal

pub returns-clause-fault : goal.returns-clause-fault
returns-clause-fault c =
    elim c.unresized.ensures [
      | inl tells ↦ (c.in-Err.why, c.in-Err.ensures.fault, tells)
      | inr tells ↦ (resizes.NoMemory, tt, tells)
    ]
