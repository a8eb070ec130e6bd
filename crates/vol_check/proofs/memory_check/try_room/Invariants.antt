use Rattle.std.proofs.Common.{◌≡◌, ◌+◌, ◌-◌, ◌*◌, ◌≤◌}
use Rattle.count_table.specs.Sums.{below}
use Rattle.vol_check.specs.LineCounts.{name_count}
use Rattle.vol_check.proofs.memory_check.try_room.Given as goal

-- Invariant: the names of the i-numbers before `d` are counted.
abbrev pub invariant-loop-d : goal.invariant-loop-d
invariant-loop-d l = record {
  sum : l.count ≡ below (λ k. name_count l.geometry l.image (k + 1)) (l.d - 1);
  few : l.count ≤ 4294967296 * (l.d - 1);
}
