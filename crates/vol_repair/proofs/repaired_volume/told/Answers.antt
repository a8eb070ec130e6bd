use Rattle.std.proofs.Common.{sym, ◌∙◌}
use Rattle.vol_repair.proofs.Repairs.{other_repaired, judged_sound}
use Rattle.vol_repair.proofs.repaired_volume.told.Goals as goal

pub returns-in-Some-clause-repaired : goal.returns-in-Some-clause-repaired
returns-in-Some-clause-repaired c =
    other_repaired c.args.edition c.args.geometry.now c.args.old.now c.args.image c.in-Some.lines.items c.requires.geometry c.requires.broken
    (judged_sound c.args.edition c.args.image c.in_ok-judge.field-0 c.in_ok-judge.ensures (sym c.is_some.ensures ∙ c.if-is_some.false))
    (c.has_same_front.ensures c.if-not-has_same_front.false) (rw c.in-Some.is at c.in_ok-lines.ensures)
