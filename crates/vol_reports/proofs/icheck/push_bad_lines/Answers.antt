use Rattle.std.proofs.Common.{◌+◌, arith}
use Rattle.count_table.specs.Tallies.{items_of}
use Rattle.vol_reports.specs.FromWords.{bad_line_in}
use Rattle.vol_reports.proofs.Ranges.{appended_more}
use Rattle.vol_reports.proofs.icheck.push_bad_lines.Goals as goal

pub loop-before-preserved : goal.loop-before-preserved
loop-before-preserved c =
    let g = c.args.geometry.now in
    appended_more (bad_line_in g (items_of c.args.words.now)) c.args.lines.now.items c.loop-before.lines.items c.push_bad.new.lines.items
    1 c.loop-before.before _ (c.loop-before.before + 1) (omega arith) (omega arith) c.loop-before.invariant c.in_ok-push_bad.ensures
