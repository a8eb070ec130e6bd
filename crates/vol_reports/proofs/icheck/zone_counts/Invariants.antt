use Rattle.std.proofs.Common.{◌≡◌, ◌-◌}
use Rattle.std.specs.List.{count_by, range_with_len}
use Rattle.count_table.specs.Tallies.{items_of}
use Rattle.vol_reports.specs.FromWords.{is_used_in, is_met_in, is_lost_in}
use Rattle.vol_reports.proofs.icheck.zone_counts.Given as goal

-- Invariant: the blocks before `b` are counted.
abbrev pub invariant-loop-b : goal.invariant-loop-b
invariant-loop-b l = record {
  used : l.counts.used ≡ count_by (is_used_in l.geometry (items_of l.words)) (range_with_len l.geometry.zone_start (l.b - l.geometry.zone_start));
  free : l.counts.free ≡ count_by (is_met_in l.geometry (items_of l.words)) (range_with_len l.geometry.zone_start (l.b - l.geometry.zone_start));
  missing : l.counts.missing ≡ count_by (is_lost_in l.geometry (items_of l.words)) (range_with_len l.geometry.zone_start (l.b - l.geometry.zone_start));
}
