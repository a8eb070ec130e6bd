-- Invariant: the logical blocks so far are in blocks that follow one another.
use Rattle.std.proofs.Common.{◌≡◌, ℕ, ◌+◌, ◌<◌}
use Rattle.vol_layout.specs.BlockPointers.{form_at, stored}
use Rattle.vol_file.specs.Runs.{LooksUp}
use Rattle.vol_migrate.proofs.copy.run_len.Given as goal

abbrev pub invariant-loop-count : goal.invariant-loop-count
invariant-loop-count l = record {
  numbers : LooksUp l.fn.from l.fn.old l.initial.numbers.inode l.numbers;
  run : (n : ℕ) → n < l.count → stored l.fn.from l.fn.old l.initial.numbers.inode (form_at l.fn.from l.fn.old l.initial.numbers.inode) (l.fn.b + n) ≡ l.fn.m + n;
}
