use Rattle.std.proofs.Common.{ap, inl, inr, refl}
use Rattle.command_faults.specs.Faults.{line_after}
use Rattle.unixvol.proofs.save.print_text.Goals as goal

pub returns-in-Ok : goal.returns-in-Ok
returns-in-Ok g c = inl (refl, c.in-Ok.ensures.ok, c.in-Ok.ensures.working, refl)

pub returns-in-Err : goal.returns-in-Err
returns-in-Err g c =
    inr (
      c.from.ensures.0,
      (c.in-Err.field-0.written, c.in-Err.ensures.part),
      c.in-Err.ensures.fault,
      ap line_after c.from.ensures.1,
    )
