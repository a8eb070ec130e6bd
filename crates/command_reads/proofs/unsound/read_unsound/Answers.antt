use Rattle.std.proofs.Common.{ap, inl, inr, refl}
use Rattle.command_faults.specs.Faults.{line_after}
use Rattle.command_reads.proofs.Printed.{told_only}
use Rattle.command_reads.proofs.unsound.read_unsound.Goals as goal

pub returns-in-Err-rule_remarks : goal.returns-in-Err-rule_remarks
returns-in-Err-rule_remarks g c =
    inr (
      _,
      inl refl,
      told_only c.from-in-Err-rule_remarks.ensures,
    )

pub returns-in-Ok-show : goal.returns-in-Ok-show
returns-in-Ok-show g c =
    inl (
      _,
      c.ending_with.result.status,
      c.in-Ok-rule_remarks.remarks.lines.items,
      (
        record { geometry = c.in-Ok.file.geometry; inode = c.in-Ok.file.inode; file = c.in-Ok.ensures.found; bytes = refl; told = c.in-Ok-rule_remarks.ensures },
        c.ending_with.ensures.status,
      ),
      inl (record {
        status = refl;
        whole = c.in-Ok-show.ensures.ok;
        working = c.in-Ok-show.ensures.kept;
        said = c.ending_with.ensures.line;
      }),
    )

pub returns-in-Err-show : goal.returns-in-Err-show
returns-in-Err-show g c =
    inl (
      _,
      _,
      c.in-Ok-rule_remarks.remarks.lines.items,
      (
        record { geometry = c.in-Ok.file.geometry; inode = c.in-Ok.file.inode; file = c.in-Ok.ensures.found; bytes = refl; told = c.in-Ok-rule_remarks.ensures },
        refl,
      ),
      inr (record {
        status = c.from-in-Err-show.ensures.0;
        front = (c.in-Err-show.ensures.part.0, c.in-Err-show.ensures.part.2);
        broken = c.in-Err-show.ensures.fault;
        said = ap line_after c.from-in-Err-show.ensures.1;
      }),
    )
