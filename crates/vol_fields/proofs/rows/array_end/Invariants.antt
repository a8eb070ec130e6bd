use Rattle.std.proofs.Common.{◌≡◌, ◌-◌, ◌≤◌}
use Rattle.vol_fields.specs.Rows.{array_end}
use Rattle.vol_fields.proofs.rows.array_end.Given as goal

-- Invariant: the zero fields of the array up to byte `end` have been passed.
abbrev pub invariant-loop-k : goal.invariant-loop-k
invariant-loop-k l = record {
  from : l.n ≤ l.end;
  within : l.end ≤ l.to;
  same : array_end l.geometry l.roles l.image l.to (l.to - l.n) l.n ≡ array_end l.geometry l.roles l.image l.to (l.to - l.n - l.k) l.end;
}
