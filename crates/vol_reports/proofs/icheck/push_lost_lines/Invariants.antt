use Rattle.std.proofs.Common.{◌≡◌, ◌-◌, ◌++◌}
use Rattle.std.specs.List.{flat_map, range_with_len}
use Rattle.count_table.specs.Tallies.{items_of}
use Rattle.vol_reports.specs.FromWords.{lost_line_in}
use Rattle.vol_reports.proofs.icheck.push_lost_lines.Given as goal

-- Invariant: the lines of the blocks before `b` have been added.
abbrev pub invariant-loop-b : goal.invariant-loop-b
invariant-loop-b l =
    l.lines.items ≡ l.initial.lines.items ++ flat_map (lost_line_in l.geometry (items_of l.words)) (range_with_len l.geometry.zone_start (l.b - l.geometry.zone_start))
