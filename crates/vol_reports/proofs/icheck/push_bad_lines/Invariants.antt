use Rattle.std.proofs.Common.{◌≡◌, ◌++◌}
use Rattle.std.specs.List.{flat_map, range_with_len}
use Rattle.count_table.specs.Tallies.{items_of}
use Rattle.vol_reports.specs.FromWords.{bad_line_in}
use Rattle.vol_reports.proofs.icheck.push_bad_lines.Given as goal

-- Invariant: the lines of the i-nodes up to `before` have been added.
abbrev pub invariant-loop-before : goal.invariant-loop-before
invariant-loop-before l =
    l.lines.items ≡ l.initial.lines.items ++ flat_map (bad_line_in l.geometry (items_of l.words)) (range_with_len 1 l.before)
