use Rattle.std.proofs.Common.{◌∙◌}
use Rattle.vol_reports.proofs.BlockLines.{blocks_from}
use Rattle.vol_reports.proofs.icheck.block_report.Goals as goal

pub returns : goal.returns
returns c = λ image counts. c.from_vec.ensures ∙ blocks_from c.new-lines.result.items c.push_bad_lines.new.lines.items c.push_dup_lines.new.lines.items
    c.push_lost_lines.new.lines.items c.push_fault.new.lines.items c.push_totals.new.lines.items c.new-lines.ensures.items
    c.in_ok-push_bad_lines.ensures c.in_ok-push_dup_lines.ensures c.in_ok-push_lost_lines.ensures c.in_ok-push_fault.ensures
    c.in_ok-push_totals.ensures counts
