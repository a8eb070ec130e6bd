use Rattle.std.proofs.Common.{◌∙◌}
use Rattle.vol_repair.proofs.Repairs.{same_repaired}
use Rattle.vol_repair.proofs.repaired_volume.unchanged.Goals as goal

pub returns-clause-repaired : goal.returns-clause-repaired
returns-clause-repaired c =
    same_repaired c.args.edition c.args.old.now c.from_bytes.result c.new.result.items c.requires.sound
    (c.from_bytes.ensures ∙ (c.in_ok-from_slice.ensures.items ∙ c.as_bytes.ensures)) c.new.ensures.items
