use Rattle.std.proofs.Common.{◌≤◌}
use Rattle.vol_layout.specs.Edition.{constants}
use Rattle.vol_file.specs.Clears.{Gains}
use Rattle.vol_file.proofs.Nodes.{ClearsEntries}
use Rattle.vol_file.proofs.truncate_file.+clear_below.Given as goal

-- The number of levels decreases with each recursive call.
abbrev pub decreases-clear_below : goal.decreases-clear_below
decreases-clear_below l = l.level

-- Invariant: entry `j` and the later entries are cleared, and `given` blocks have been freed.
abbrev pub invariant-loop-j : goal.invariant-loop-j
invariant-loop-j l = record {
  few : l.j ≤ (constants l.geometry.edition).pointers;
  cleared : ClearsEntries l.geometry l.fn.image l.image l.m l.level l.kept l.j;
  counted : Gains l.geometry l.fn.image l.image l.given;
}

-- The number of entries left decreases with each step.
abbrev pub decreases-loop-j : goal.decreases-loop-j
decreases-loop-j l = l.j
