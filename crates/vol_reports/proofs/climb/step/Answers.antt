use Rattle.std.proofs.Common.{inl, inr, arith}
use Rattle.vol_reports.proofs.Climbs.{none_past, steps_at}
use Rattle.vol_reports.proofs.climb.step.Goals as goal

pub returns-then-k-marks-clause-step : goal.returns-then-k-marks-clause-step
returns-then-k-marks-clause-step c = inr (none_past c.args.naming.now c.args.at (omega arith))

pub returns-then-marks-k-clause-step : goal.returns-then-marks-k-clause-step
returns-then-marks-k-clause-step c = inl (c.if-k-marks.false, c.if-marks-k.true)

pub returns-clause-step : goal.returns-clause-step
returns-clause-step c = steps_at c.args.naming.now c.args.turn c.args.at c.args.marks.now c.index-naming-k.result c.requires.room c.if-k-marks.false c.if-marks-k.false c.index-naming-k.is
