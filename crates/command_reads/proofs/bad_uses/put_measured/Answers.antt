use Rattle.std.proofs.Common.{inl, inr, refl}
use Rattle.command_reads.specs.Map.{IsMapFault}
use Rattle.command_reads.proofs.KnownUses.{in_pieces_telling}
use Rattle.command_reads.proofs.Printed.{told_only}
use Rattle.command_reads.proofs.bad_uses.put_measured.Goals as goal

pub returns-in-Ok : goal.returns-in-Ok
returns-in-Ok g c =
    inl (
      _,
      c.in-Ok.ending.status,
      _,
      ((c.args.geometry.now, c.requires.read, refl, c.in-Ok.ensures.line), c.in-Ok.ensures.status),
      in_pieces_telling _ _ _ c.ended_after.result.fault c.in-Ok.ending c.put_known.result
          c.put_known.ensures c.ended_after.ensures.whole c.ended_after.ensures.fault refl,
    )

pub returns-in-Err : goal.returns-in-Err
returns-in-Err g c = inr (_, IsMapFault.memory, told_only c.from.ensures)
