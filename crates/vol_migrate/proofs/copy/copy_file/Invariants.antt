-- Invariant: all blocks before the next stored one are copied.
use Rattle.std.proofs.Common.{◌≢◌, ◌-◌, ◌≤◌, ◌<◌}
use Rattle.vol_layout.specs.BlockPointers.{form_at, stored}
use Rattle.vol_file.specs.Runs.{LooksUp}
use Rattle.vol_migrate.specs.Stages.{CarriesTo}
use Rattle.vol_migrate.proofs.copy.copy_file.Given as goal

abbrev pub invariant-loop-b : goal.invariant-loop-b
invariant-loop-b l = record {
  numbers : LooksUp l.fn.from l.fn.old l.fn.i l.numbers;
  within : l.b ≤ l.end;
  some : l.b < l.end → stored l.fn.from l.fn.old l.fn.i (form_at l.fn.from l.fn.old l.fn.i) l.b ≢ 0;
  carries : CarriesTo l.fn.from l.fn.to l.fn.old l.fn.image l.fn.i 0 l.image l.fn.i l.b;
}

abbrev pub decreases-loop-b : goal.decreases-loop-b
decreases-loop-b l = l.end - l.b
