use Rattle.std.proofs.Common.{◌≤◌}
use Rattle.vol_layout.specs.BlockPointers.{form_at}
use Rattle.vol_layout.specs.BlockMaps.{first_count}
use Rattle.vol_file.specs.Clears.{Gains}
use Rattle.vol_file.proofs.Nodes.{ClearsAddresses}
use Rattle.vol_file.proofs.truncate_file.clear_addresses.Given as goal

-- Invariant: address `k` and the later addresses are cleared, and `given` blocks have been freed.
abbrev pub invariant-loop-k : goal.invariant-loop-k
invariant-loop-k l = record {
  few : l.k ≤ first_count (form_at l.geometry l.fn.image l.i);
  cleared : ClearsAddresses l.geometry l.fn.image l.image l.i l.kept l.k;
  counted : Gains l.geometry l.fn.image l.image l.given;
}

-- The number of addresses left decreases with each step.
abbrev pub decreases-loop-k : goal.decreases-loop-k
decreases-loop-k l = l.k
