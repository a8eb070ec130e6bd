use Rattle.std.proofs.Common.{ap, sym, true, arith}
use Rattle.std.specs.Result.{is_ok}
use Rattle.vol_judge.proofs.RuleNumbers.{judged_short, judged_bounds, read_sizes}
use Rattle.vol_repair.proofs.repaired_volume.repair.Goals as goal

pub returns-in-Err-Short-clause-fault : goal.returns-in-Err-Short-clause-fault
returns-in-Err-Short-clause-fault c =
    (judged_short true c.args.edition c.args.old.now (rw c.in-Err-Short.field-0-is at (sym c.in-Err-Short.ensures.exact)), omega arith)

pub returns-in-Err-Bounds-clause-fault : goal.returns-in-Err-Bounds-clause-fault
returns-in-Err-Bounds-clause-fault c =
    (judged_bounds true c.args.edition c.args.old.now (rw c.in-Err-Bounds.field-0-is at (sym c.in-Err-Bounds.ensures.exact)), omega arith)

pub unchanged-requires : goal.unchanged-requires
unchanged-requires c = record { sound = rw c.in-Ok-None.field-0-is at c.in-Ok-None.ensures }

pub repair_broken-requires-clause-geometry : goal.repair_broken-requires-clause-geometry
repair_broken-requires-clause-geometry c = read_sizes c.args.edition c.args.old.now c.in-Ok.geometry (sym c.in-Ok.ensures.exact)

pub repair_broken-requires-clause-broken : goal.repair_broken-requires-clause-broken
repair_broken-requires-clause-broken c = rw c.in-Ok-Some.field-0-is at c.in-Ok-Some.ensures

pub repair_broken-requires-clause-sized : goal.repair_broken-requires-clause-sized
repair_broken-requires-clause-sized c = ap is_ok (sym c.in-Ok.ensures.exact)
