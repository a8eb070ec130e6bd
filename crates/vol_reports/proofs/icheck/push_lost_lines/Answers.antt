use Rattle.std.proofs.Common.{◌-◌, arith}
use Rattle.count_table.specs.Tallies.{items_of}
use Rattle.vol_reports.specs.FromWords.{lost_line_in}
use Rattle.vol_reports.proofs.Ranges.{appended_more}
use Rattle.vol_reports.proofs.icheck.push_lost_lines.Goals as goal

pub loop-b-preserved : goal.loop-b-preserved
loop-b-preserved c =
    let g = c.args.geometry.now in
    appended_more (lost_line_in g (items_of c.args.words.now)) c.args.lines.now.items c.loop-b.lines.items c.push_lost.new.lines.items
    g.zone_start (c.loop-b.b - g.zone_start) _ c.loop-b.b (omega arith) (omega arith) c.loop-b.invariant c.in_ok-push_lost.ensures
