-- Invariant: the needs of the files before `i` are added.
use Rattle.std.proofs.Common.{◌≡◌, ◌*◌, ◌≤◌}
use Rattle.vol_migrate.specs.Stages.{need_before}
use Rattle.vol_migrate.proofs.count.places_needed.Given as goal

abbrev pub invariant-loop-i : goal.invariant-loop-i
invariant-loop-i l = record {
  total : l.needed ≡ need_before l.fn.from l.fn.old l.i;
  bound : l.needed ≤ 131072 * l.i;
}
