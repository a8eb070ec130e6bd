-- Invariant of `meet_again`: the records after all steps are those after the remaining steps, from node `at` upwards.
use Rattle.std.proofs.Common.{◌≡◌, ◌-◌, length}
use Rattle.vol_mounted.specs.Records.{met_again}
use Rattle.vol_mounted.proofs.settle.meet_again.Given as goal

abbrev pub invariant-levels : goal.invariant-levels
invariant-levels l =
    met_again l.geometry l.image (length l.initial.nodes) l.initial.nodes l.i
    ≡ met_again l.geometry l.image (length l.initial.nodes - l.level) l.nodes l.at
