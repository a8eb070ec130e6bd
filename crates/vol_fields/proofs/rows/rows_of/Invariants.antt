use Rattle.std.proofs.Common.{◌-◌, ◌≤◌}
use Rattle.vol_fields.specs.Rows.{AreRows}
use Rattle.vol_fields.proofs.rows.rows_of.Given as goal

-- Invariant: the rows up to byte `n` have been added.
abbrev pub invariant-loop-n : goal.invariant-loop-n
invariant-loop-n l = record {
  within : l.n ≤ l.to;
  added : AreRows l.geometry l.roles l.image l.to l.from l.n l.rows.items;
}

abbrev pub decreases-loop-n : goal.decreases-loop-n
decreases-loop-n l = l.to - l.n
