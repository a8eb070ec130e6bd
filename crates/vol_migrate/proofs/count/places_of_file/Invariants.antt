-- Invariant: the positions of the logical blocks before `passed` are counted.
use Rattle.std.proofs.Common.{◌≡◌, ◌-◌, ◌*◌, ◌≤◌, true}
use Rattle.vol_layout.specs.BlockPointers.{form_at}
use Rattle.vol_file.specs.Holes.{IsNextStored}
use Rattle.vol_file.specs.Runs.{LooksUp}
use Rattle.vol_dir.specs.Tree.{shapes}
use Rattle.vol_migrate.specs.Raised.{names_block}
use Rattle.vol_migrate.specs.Stages.{places_for}
use Rattle.vol_migrate.proofs.count.places_of_file.Given as goal

abbrev pub invariant-loop-b : goal.invariant-loop-b
invariant-loop-b l = record {
  numbers : LooksUp l.fn.from l.fn.old l.fn.i l.numbers;
  next : IsNextStored l.fn.from l.fn.old l.fn.i (form_at l.fn.from l.fn.old l.fn.i) l.passed l.end l.b;
  total : l.places ≡ places_for (shapes l.fn.from l.fn.old l.fn.i) l.passed;
  last : 1 ≤ l.passed → names_block (shapes l.fn.from l.fn.old l.fn.i) (l.passed - 1) ≡ true;
  bound : l.places ≤ 4 * l.passed;
  within : l.passed ≤ l.end;
}

abbrev pub decreases-loop-b : goal.decreases-loop-b
decreases-loop-b l = l.end - l.b
