use Rattle.std.proofs.Common.{[], inl, inr, refl, sym, ap, ◌∙◌}
use Rattle.vol_dir.specs.Directories.{find_directory}
use Rattle.command_reads.proofs.Printed.{in_pieces, told_only}
use Rattle.command_reads.proofs.slots.show_slots.Goals as goal

pub returns-in-Ok : goal.returns-in-Ok
returns-in-Ok g c =
    inl (
      _,
      0,
      [],
      ((record { start = c.in-Ok.start; begins = sym (c.in-Ok.ensures.exact ∙ ap (find_directory c.args.edition c.args.image.now) c.as_bytes.ensures.value); lines = refl }, refl), refl),
      in_pieces 0 _ _ _ c.ending_after.result.fault c.put_all-written.result
          c.put_all-written.ensures c.ending_after.ensures.whole c.ending_after.ensures.fault refl,
    )

pub returns-in-Err : goal.returns-in-Err
returns-in-Err g c =
    inr (
      _,
      (c.in-Err.fault, sym (c.in-Err.ensures.exact ∙ ap (find_directory c.args.edition c.args.image.now) c.as_bytes.ensures.value), c.unstarted.ensures),
      told_only c.from.ensures,
    )
