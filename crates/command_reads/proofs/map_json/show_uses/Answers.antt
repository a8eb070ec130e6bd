use Rattle.std.proofs.Common.{[], inl, inr, refl, sym, subst}
use Rattle.command_reads.specs.Map.{IsMapFault}
use Rattle.command_reads.proofs.Printed.{in_pieces, told_only}
use Rattle.command_reads.proofs.map_json.show_uses.Goals as goal

pub returns-in-Ok : goal.returns-in-Ok
returns-in-Ok g c =
    inl (
      _,
      0,
      [],
      (((c.in-Ok.geometry, sym c.in-Ok.ensures.exact, refl), refl), refl),
      in_pieces 0 _ _ _ c.ending_after.result.fault c.put_uses.result
          c.put_uses.ensures c.ending_after.ensures.whole c.ending_after.ensures.fault refl,
    )

pub returns-in-Err : goal.returns-in-Err
returns-in-Err g c =
    inr (
      _,
      subst (IsMapFault c.args.edition c.args.image.now) (sym c.unmeasured.ensures) (IsMapFault.unsound c.in-Err.fault (sym c.in-Err.ensures.exact)),
      told_only c.from.ensures,
    )
