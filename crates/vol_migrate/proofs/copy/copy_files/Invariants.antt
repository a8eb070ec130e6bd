-- Invariant: all files before `i` are copied.
use Rattle.vol_migrate.specs.Stages.{CarriesTo}
use Rattle.vol_migrate.proofs.copy.copy_files.Given as goal

abbrev pub invariant-loop-i : goal.invariant-loop-i
invariant-loop-i l = CarriesTo l.fn.from l.fn.to l.fn.old l.fn.image 1 0 l.image l.i 0
