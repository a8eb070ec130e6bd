use Rattle.std.proofs.Common.{[], inl, inr, refl}
use Rattle.command_reads.specs.Inode.{inode_json}
use Rattle.command_reads.proofs.Printed.{in_pieces, told_only}
use Rattle.command_reads.proofs.inode.print_json.Goals as goal

pub returns-in-Ok : goal.returns-in-Ok
returns-in-Ok g c =
    inl (
      inode_json c.in-Ok.report,
      0,
      [],
      (((c.in-Ok.report, c.in-Ok.ensures, refl), refl), refl),
      in_pieces 0 _ _ _ c.ending_after.result.fault c.put_report.result
          c.put_report.ensures c.ending_after.ensures.whole c.ending_after.ensures.fault refl,
    )

pub returns-in-Err : goal.returns-in-Err
returns-in-Err g c =
    inr (
      _,
      (c.in-Err.fault, c.in-Err.ensures, c.uninspected.ensures),
      told_only c.from.ensures,
    )
