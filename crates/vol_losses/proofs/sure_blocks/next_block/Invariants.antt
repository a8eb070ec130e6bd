use Rattle.std.proofs.Common.{◌≡◌, ℕ, ◌-◌, ◌<◌, ◌≤◌, not}
use Rattle.vol_losses.specs.Losses.{is_unsure}
use Rattle.vol_losses.proofs.sure_blocks.next_block.Given as goal

-- Invariant: none of the logical blocks before `b` is sought.
abbrev pub invariant-loop-b : goal.invariant-loop-b
invariant-loop-b l = record {
  from : l.from ≤ l.b;
  before : (c : ℕ) → l.from ≤ c → c < l.b → is_unsure l.geometry l.image l.lost l.i c ≡ not l.unsure;
}

abbrev pub decreases-loop-b : goal.decreases-loop-b
decreases-loop-b l = l.end - l.b
