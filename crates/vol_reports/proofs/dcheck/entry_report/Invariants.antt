use Rattle.std.proofs.Common.{◌≡◌}
use Rattle.std.specs.List.{flat_map, range_with_len}
use Rattle.count_table.specs.Tallies.{items_of}
use Rattle.vol_reports.specs.FromWords.{links_line_in, no_links}
use Rattle.vol_reports.proofs.dcheck.entry_report.Given as goal

-- Invariant: the lines of the i-numbers up to `before` have been added.
abbrev pub invariant-loop-before : goal.invariant-loop-before
invariant-loop-before l = l.lines.items ≡ flat_map (links_line_in (items_of l.words) l.links no_links) (range_with_len 1 l.before)
