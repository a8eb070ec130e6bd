use Rattle.std.proofs.Common.{sym, None, Some}
use Rattle.vol_judge.proofs.RuleNumbers.{judged_short, judged_bounds, judged_volume, read_sizes}
use Rattle.vol_judge.proofs.verdict.examine.Goals as goal

pub returns-in-Err-Short-clause-judged : goal.returns-in-Err-Short-clause-judged
returns-in-Err-Short-clause-judged c = judged_short c.args.free c.args.edition c.args.image.now (rw c.in-Err-Short.field-0-is at (sym c.in-Err-Short.ensures.exact))

pub returns-in-Err-Bounds-clause-judged : goal.returns-in-Err-Bounds-clause-judged
returns-in-Err-Bounds-clause-judged c = judged_bounds c.args.free c.args.edition c.args.image.now (rw c.in-Err-Bounds.field-0-is at (sym c.in-Err-Bounds.ensures.exact))

pub returns-in-Ok-2-clause-judged : goal.returns-in-Ok-2-clause-judged
returns-in-Ok-2-clause-judged c =
    judged_volume c.args.free c.args.edition c.args.image.now c.in-Ok.geometry None (sym c.in-Ok.ensures.exact) (rw c.in-Ok-2.is at c.in_ok-free.ensures.least)

pub returns-in-Ok-2-clause-sizes : goal.returns-in-Ok-2-clause-sizes
returns-in-Ok-2-clause-sizes c = read_sizes c.args.edition c.args.image.now c.in-Ok.geometry (sym c.in-Ok.ensures.exact)

pub returns-in-Err-clause-judged : goal.returns-in-Err-clause-judged
returns-in-Err-clause-judged c =
    judged_volume c.args.free c.args.edition c.args.image.now c.in-Ok.geometry (Some c.in-Err.rule) (sym c.in-Ok.ensures.exact)
    (rw c.in-Err.is at c.in_ok-free.ensures.least)
