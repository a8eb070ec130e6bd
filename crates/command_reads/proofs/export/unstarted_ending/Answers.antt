use Rattle.std.proofs.Common.{◌∙◌, Bool, None, ap, inl, inr, refl, true}
use Rattle.command_faults.specs.declared.fault.Fault.TheVariants as faults
use Rattle.command_reads.specs.Export.{told_status}
use Rattle.command_reads.proofs.Printed.{told_only}
use Rattle.command_reads.proofs.export.unstarted_ending.Goals as goal

-- something is lost on the way
pub returns-in-Ok-Some : goal.returns-in-Ok-Some
returns-in-Ok-Some c known failed =
    inr (inl (
      c.in-Ok-Some.lines.items,
      faults.Worded None c.in-Ok-Some.lines,
      rw c.in-Ok-Some.field-0-is at c.in-Ok-Some.ensures,
      refl,
      told_only (c.told_status.ensures ∙ ap (λ (graded : Bool). told_status graded true) c.is_graded.ensures, refl),
    ))

-- memory ran out
pub returns-in-Err : goal.returns-in-Err
returns-in-Err c known failed = inr (inr (told_only c.from.ensures))
