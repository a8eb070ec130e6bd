use Rattle.std.proofs.Common.{◌≡◌, ◌-◌, ◌*◌, ◌≤◌}
use Rattle.vol_dir.specs.Entries.{entry_at}
use Rattle.count_table.specs.Sums.{below}
use Rattle.vol_check.specs.LineCounts.{named_one}
use Rattle.vol_check.proofs.memory_check.count_directory.Given as goal

-- Invariant: the entries of the logical blocks before `b` are counted.
abbrev pub invariant-loop-b : goal.invariant-loop-b
invariant-loop-b l = record {
  within : l.b ≤ l.whole;
  sum : l.count ≡ below (λ s. named_one (entry_at l.geometry l.image l.d s)) (32 * l.b);
}

abbrev pub decreases-loop-b : goal.decreases-loop-b
decreases-loop-b l = l.whole - l.b
