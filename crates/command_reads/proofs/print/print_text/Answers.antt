use Rattle.std.proofs.Common.{ap, inl, inr, refl}
use Rattle.command_faults.specs.Faults.{line_after}
use Rattle.command_reads.proofs.print.print_text.Goals as goal

pub returns-in-Ok : goal.returns-in-Ok
returns-in-Ok g c =
    inl (record { status = refl; whole = c.in-Ok.ensures.ok; working = c.in-Ok.ensures.working; said = refl })

pub returns-in-Err : goal.returns-in-Err
returns-in-Err g c = inr (record {
  status = c.from.ensures.0;
  front = (c.in-Err.field-0.written, c.in-Err.ensures.part);
  broken = c.in-Err.ensures.fault;
  said = ap line_after c.from.ensures.1;
})
