use Rattle.std.proofs.Common.{◌≡◌, ◌≤◌, ◌-◌, drop, length}
use Rattle.vol_compare.specs.Merge.{path_order}
use Rattle.vol_compare.proofs.merge.path_order.Given as goal

-- Invariant: the paths have the order of what follows their first `k` bytes.
abbrev pub invariant-loop-k : goal.invariant-loop-k
invariant-loop-k l = record {
  old_within : l.k ≤ length l.old;
  new_within : l.k ≤ length l.new;
  rest : path_order l.old l.new ≡ path_order (drop l.k l.old) (drop l.k l.new);
}

abbrev pub decreases-loop-k : goal.decreases-loop-k
decreases-loop-k l = length l.old - l.k
